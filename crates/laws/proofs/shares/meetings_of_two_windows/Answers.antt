use Rattle.laws.proofs.SameMeetings.{meetings_of_windows}
use Rattle.laws.proofs.shares.meetings_of_two_windows.Goals as goal

pub returns : goal.returns
returns c = meetings_of_windows

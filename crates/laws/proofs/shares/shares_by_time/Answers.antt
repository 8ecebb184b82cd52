use Rattle.laws.proofs.SeenAlike.{all_by_time, by_time}
use Rattle.laws.proofs.shares.shares_by_time.Goals as goal

pub returns-clause-meetings : goal.returns-clause-meetings
returns-clause-meetings c = λ scenario log start ticks behind more row none subject other is in_later in_earlier.
    by_time scenario log start ticks behind more none row subject other is in_later in_earlier

pub returns-clause-rows : goal.returns-clause-rows
returns-clause-rows c = λ scenario log start ticks behind more row none subject other subject_type other_type apart in_later in_earlier.
    all_by_time scenario log start ticks behind more none row subject other subject_type other_type apart in_later in_earlier

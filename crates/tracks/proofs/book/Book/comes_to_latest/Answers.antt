use Rattle.tracks.proofs.LatestReport.{comes_to_latest}
use Rattle.tracks.proofs.book.Book.comes_to_latest.Goals as goal

pub returns : goal.returns
returns c = λ numbers sent h latest last t before lt close seen.
    comes_to_latest c.args.self.now numbers sent c.args.mmsi _ c.requires h (c.legs.ensures.value numbers sent h) c.legs.ensures.moves latest last t before lt close seen

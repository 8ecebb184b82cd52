use Rattle.tracks.proofs.Stands.{no_points_held}
use Rattle.tracks.proofs.book.Book.points.Goals as goal

pub returns-in-None-clause-value : goal.returns-in-None-clause-value
returns-in-None-clause-value c = λ numbers sent h. no_points_held c.args.self.now.keeping numbers sent c.args.mmsi (c.in-None.ensures.value numbers sent h)

use Rattle.std.proofs.Common.{[], ◌∷◌, ◌++◌, ◌∙◌, arith, refl}
use Rattle.mtl_monitor.proofs.Feeding.{Closes-Follows}
use Rattle.mtl_early.proofs.ForCallers.{decided_earlier}
use Rattle.early_monitor.proofs.pass_state.PassState.feed.Goals as goal

pub copy_from-requires : goal.copy_from-requires
copy_from-requires g c =
    let of = c.requires.of in
    let fed = c.feed-changed.ensures in
    (of.0, of.1, fed.fits, fed.room of.3)

pub returns-clause-of : goal.returns-clause-of
returns-clause-of g c =
    let p = c.args.program.now in
    let of = c.requires.of in
    let fed = c.feed-changed.ensures in
    (c.copy_from.ensures.fits p fed.fits, c.copy_from.ensures.room p (fed.room of.3), fed.fits, fed.room of.3)

pub returns-clause-giving : goal.returns-clause-giving
returns-clause-giving g c = λ t rows at.
    let p = c.args.program.now in
    let row = g.A.Atoms.answer c.args.row.now in
    let follows = c.feed-changed.ensures.follows (t ∷ []) rows at.follows in
    record {
      before = rows;
      row = row;
      split = refl;
      looks = record {
        follows = follows;
        reach = at.reach;
        ahead = Closes-Follows p c.copy_from.new.self (t ∷ []) (rows ++ row ∷ []) (c.copy_from.ensures.follows p (t ∷ []) (rows ++ row ∷ []) follows);
        past = c.copy_from.ensures.past ∙ c.feed-changed.ensures.past;
        new = λ k below. absurd (omega (arith, below));
        old = λ k from within. at.known k within;
      };
      passed = λ j after below. decided_earlier rows row t j (omega (arith, below));
      behind = omega arith;
    }

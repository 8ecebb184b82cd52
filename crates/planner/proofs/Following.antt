-- A target that is followed from tick to tick.
use Rattle.std.proofs.Common.{◌≡◌, ℕ, ◌+◌, ◌≤◌, List, refl, subst, Bool, true, false}
use Rattle.planner.specs.Inner.Watching.{IsCopyOf, IsFollowed}
use Rattle.plan_situations.specs.Situations.{now_of}
use Rattle.planner.specs.declared.towards.Towards.{Towards}
use Rattle.planner.specs.declared.watched.Watched.{Watched}
use Rattle.plan_situations.proofs.Lifting.{breaks_later}

module _ (t : Towards) (W : List ℕ) where
  pub not_yet : (at : ℕ) (w : Watched) → IsFollowed t W at at w w false
  not_yet at w = record { stands = λ e cut is was. was; breaks = λ e cut is was. cc }

  -- one more step, after steps in which nothing was newly broken
  pub one_more : (from mid at : ℕ) (old w new : Watched) (told : Bool) → at ≡ mid → IsFollowed t W from mid old w false → IsFollowed t W at (at + 1) w new told
      → IsFollowed t W from (mid + 1) old new told
  one_more from mid at old w new told e before step =
      let step' = subst (λ (n : ℕ). IsFollowed t W n (n + 1) w new told) e step in
      record {
        stands = λ f cut is was. step'.stands f cut is (before.stands refl cut is was);
        breaks = λ f cut is was. step'.breaks f cut is (before.stands refl cut is was);
      }

  pub none_told : (from mid to : ℕ) (old new : Watched) (told : Bool) → told ≡ false → mid ≡ to → IsFollowed t W from mid old new told → IsFollowed t W from to old new false
  none_told from mid to old new told f e h =
      subst (λ (n : ℕ). IsFollowed t W from n old new false) e (subst (λ (b : Bool). IsFollowed t W from mid old new b) f h)

  -- What is newly broken before the end breaks a rule by the end.
  pub told_by : (from mid to : ℕ) (old new : Watched) (told : Bool) → told ≡ true → now_of t.situation.now ≤ mid → mid ≤ to → IsFollowed t W from mid old new told
      → IsFollowed t W from to old new true
  told_by from mid to old new told f from_now le h = record {
    stands = λ e cut is was. cc;
    breaks = λ e cut is was. breaks_later t.situation.now W t.target.now mid to from_now le (h.breaks f cut is was);
  }

  pub from_copy : (from to : ℕ) (other copy new : Watched) (told : Bool) → IsCopyOf copy other → IsFollowed t W from to copy new told → IsFollowed t W from to other new told
  from_copy from to other copy new told same h = record {
    stands = λ e cut is was. h.stands e cut is (same.stands t.program.now t.situation.now W t.target.now cut from was);
    breaks = λ e cut is was. h.breaks e cut is (same.stands t.program.now t.situation.now W t.target.now cut from was);
  }

-- Vertices, and lists of six.
use Rattle.std.proofs.Common.{◌≡◌, ◌≢◌, List, [], ◌∷◌, map, length, None, refl, arith}
use Rattle.std.specs.Prelude.{slice_index_or, ℤ}
use Rattle.toml.specs.declared.value.Value.{Value}
use Rattle.scenario.specs.Shapes.{near_vertex, vertex_by}

pub two_integers : (f : Value → ℤ) (values : List Value) (a b : Value) → length values ≡ 2 →
    vertex_by (map f values) ≡ near_vertex (f (slice_index_or values 0 a), f (slice_index_or values 1 b))
two_integers f [] a b h = absurd (omega arith)
two_integers f (x ∷ []) a b h = absurd (omega arith)
two_integers f (x ∷ y ∷ []) a b h = refl
two_integers f (x ∷ y ∷ z ∷ rest) a b h = absurd (omega arith)

pub other_integers : (f : Value → ℤ) (values : List Value) → length values ≢ 2 → vertex_by (map f values) ≡ None
other_integers f [] h = refl
other_integers f (x ∷ []) h = refl
other_integers f (x ∷ y ∷ []) h = absurd (h refl)
other_integers f (x ∷ y ∷ z ∷ rest) h = refl

pub six_vertices : (f : Value → ℤ × ℤ) (values : List Value) (a b c d e g : Value) → length values ≡ 6 →
    map f values ≡ f (slice_index_or values 0 a) ∷ f (slice_index_or values 1 b) ∷ f (slice_index_or values 2 c)
    ∷ f (slice_index_or values 3 d) ∷ f (slice_index_or values 4 e) ∷ f (slice_index_or values 5 g) ∷ []
six_vertices f [] a b c d e g h = absurd (omega arith)
six_vertices f (x ∷ []) a b c d e g h = absurd (omega arith)
six_vertices f (x ∷ y ∷ []) a b c d e g h = absurd (omega arith)
six_vertices f (x ∷ y ∷ z ∷ []) a b c d e g h = absurd (omega arith)
six_vertices f (x ∷ y ∷ z ∷ u ∷ []) a b c d e g h = absurd (omega arith)
six_vertices f (x ∷ y ∷ z ∷ u ∷ v ∷ []) a b c d e g h = absurd (omega arith)
six_vertices f (x ∷ y ∷ z ∷ u ∷ v ∷ w ∷ []) a b c d e g h = refl
six_vertices f (x ∷ y ∷ z ∷ u ∷ v ∷ w ∷ t ∷ rest) a b c d e g h = absurd (omega arith)

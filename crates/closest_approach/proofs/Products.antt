-- Products of two vectors, by their components.
use Rattle.std.proofs.Common.{ℤ, ◌+ℤ◌, ◌-ℤ◌, ◌*ℤ◌}

abbrev pub dot_of : ℤ → ℤ → ℤ → ℤ → ℤ
dot_of x y u v = x *ℤ u +ℤ y *ℤ v

abbrev pub turn_of : ℤ → ℤ → ℤ → ℤ → ℤ
turn_of x y u v = x *ℤ v -ℤ y *ℤ u

abbrev pub norm2_of : ℤ → ℤ → ℤ
norm2_of x y = dot_of x y x y

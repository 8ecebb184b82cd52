-- Steps in sequence that may each fail, and what holds of the result.
use Rattle.std.proofs.Common.{◌≡◌, Bool, true, false, ◌⊎◌, inl, inr, ℕ, Option, Some, None, Result, Ok, Err, IfOk, OnOk, if◌then◌else◌, refl}
use Rattle.aivdm.specs.Inner.LineCuts.{◌>>=◌, told_or}
use Rattle.aivdm.specs.declared.sentence.LineCause.{LineCause}

pub bind_ok : {A B : Type 0} (r : Result A LineCause) (f : A → Result B LineCause) (y : B) → (r >>= f) ≡ Ok y → (x : A) × (r ≡ Ok x) × (f x ≡ Ok y)
bind_ok (Ok x) f y e = (x, refl, e)
bind_ok (Err c) f y e = absurd cc

pub bind_at : {A B : Type 0} (r : Result A LineCause) (f : A → Result B LineCause) (x : A) → r ≡ Ok x → (r >>= f) ≡ f x
bind_at r f x e = rw e refl

pub bind_fails : {A B : Type 0} (r : Result A LineCause) (f : A → Result B LineCause) (c : LineCause) → r ≡ Err c → (r >>= f) ≡ Err c
bind_fails r f c e = rw e refl

pub if_ok : {B : Type 0} (b : Bool) (r : Result B LineCause) (c : LineCause) (y : B) → (if b then r else Err c) ≡ Ok y → (b ≡ true) × (r ≡ Ok y)
if_ok true r c y e = (refl, e)
if_ok false r c y e = absurd cc

pub unless_ok : {B : Type 0} (b : Bool) (r : Result B LineCause) (c : LineCause) (y : B) → (if b then Err c else r) ≡ Ok y → (b ≡ false) × (r ≡ Ok y)
unless_ok true r c y e = absurd cc
unless_ok false r c y e = (refl, e)

pub ok_no_error : {A : Type 0} {x : A} {c : LineCause} → Ok x ≡ Err c → ⊥
ok_no_error e = cc

pub ok_same : {A : Type 0} (r : Result A LineCause) (x y : A) → r ≡ Ok x → r ≡ Ok y → x ≡ y
ok_same r x y p q = cc

pub outcome : {A : Type 0} (r : Result A LineCause) → ((x : A) × (r ≡ Ok x)) ⊎ ((c : LineCause) × (r ≡ Err c))
outcome (Ok x) = inl (x, refl)
outcome (Err c) = inr (c, refl)

-- It fails for this cause alone.
abbrev pub FailsBy : {A : Type 0} → LineCause → Result A LineCause → Type 0
FailsBy c (Ok x) = Unit {0}
FailsBy c (Err d) = d ≡ c

pub FailsBy-bind : {A B : Type 0} (c : LineCause) (r : Result A LineCause) (f : A → Result B LineCause) → FailsBy c r → ((x : A) → FailsBy c (f x)) → FailsBy c (r >>= f)
FailsBy-bind c (Ok x) f h g = g x
FailsBy-bind c (Err d) f h g = h

pub FailsBy-if : {A : Type 0} (c : LineCause) (b : Bool) (r s : Result A LineCause) → FailsBy c r → FailsBy c s → FailsBy c (if b then r else s)
FailsBy-if c true r s h g = h
FailsBy-if c false r s h g = g

pub fails_by : {A : Type 0} (c : LineCause) (r : Result A LineCause) (d : LineCause) → FailsBy c r → r ≡ Err d → r ≡ Err c
fails_by c (Ok x) d h e = absurd cc
fails_by c (Err b) d h e = cc

pub told_from : (c : LineCause) (o : Option ℕ) (told : ℕ) → told_or c o ≡ Ok told → o ≡ Some told
told_from c None told e = absurd cc
told_from c (Some sum) told e = cc

pub told-fails : (c : LineCause) (o : Option ℕ) → FailsBy c (told_or c o)
told-fails c None = refl
told-fails c (Some sum) = tt

-- ---- what holds of an answer

pub then_ok : {A E : Type 0} (r : Result A E) (P Q : A → Type 0) → IfOk r P → ((x : A) → P x → Q x) → IfOk r Q
then_ok (Ok x) P Q p step = step x p
then_ok (Err e) P Q p step = tt

pub then_on : {A E : Type 0} (r : Result A E) (P Q : Type 0) → OnOk r P → (P → Q) → OnOk r Q
then_on (Ok x) P Q p step = step p
then_on (Err e) P Q p step = tt

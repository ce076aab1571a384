-- What a test that holds and does not gives, and what a choice by a test gives. Assumes nothing.
use mathlib.Core.Path.{◌≡◌, refl, sym, ◌∙◌}
use mathlib.Core.Bool.{Bool, true, false, cond, true≢false}

-- no test both holds and does not
pub clash : {A : Type 0} {b : Bool} → b ≡ true → b ≡ false → A
clash h g = absurd (true≢false (sym h ∙ g))

-- what holds of both choices, each where it is taken, holds of the choice
pub either {ℓ} : {A : Type 0} (P : A → Type ℓ) (b : Bool) (x y : A) → (b ≡ true → P x) → (b ≡ false → P y) → P (cond b x y)
either P true x y f g = f refl
either P false x y f g = g refl

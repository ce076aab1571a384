-- The steps of a vote, for any rule: what the hosts hold, what a step may add to it and for which reason, and what holds after any number of
-- steps. Which AUX a host sends and which proposals are made is left open. Assumes nothing.
use Prim.Native.Nat.{ℕ, ◌+◌, ◌*◌, ◌≤◌, ◌<◌}
use mathlib.Core.Path.{◌≡◌, refl}
use mathlib.Core.Bool.{Bool, true, false, false≢true}
use mathlib.Core.Option.{Option, none, some}
use mathlib.Core.Logic.{◌⊎◌, inl, inr, ⊎_elim}
use native.Mathlib.Omega.{arith}
use Rattle.quorum.specs.Count.{one, count}
use Rattle.quorum.proofs.Honest.{one_honest, shared_honest}
use Rattle.safety.proofs.Votes.{Val, v0, v1, neither, Slot, View, Vote, Honest, History, saw, Grows, Add, old, new, Rule, Sound, NotThree, NotTwo}

-- ---- States

-- what each host holds of an instance, and what has happened. At host i, sender j counts for VAL v; its AUX; i has said VAL v; the AUX that i has
-- said; i has admitted v.
pub record State : Type 1 where
  pub val : ℕ → ℕ → Slot → Val → ℕ → Bool
  pub aux : ℕ → ℕ → Slot → ℕ → Option Val
  pub sent_val : ℕ → ℕ → Slot → Val → Bool
  pub sent_aux : ℕ → ℕ → Slot → Option Val
  pub adm : ℕ → ℕ → Slot → Val → Bool
  pub hist : History

-- the value of a sender's AUX is admitted; where there is no AUX it is not
abbrev pub allows : (Val → Bool) → Option Val → Bool
allows A none = false
allows A (some v) = A v

-- at least n−t senders' AUX are of admitted values
abbrev pub Enough : Vote → State → ℕ → ℕ → Slot → Type 0
Enough C s i r q = C.n ≤ C.t + count C.n (λ j. allows (s.adm i r q) (s.aux i r q j))

-- W is the view of the instance: the values of all those AUX
pub record Viewed (C : Vote) (s : State) (i r : ℕ) (q : Slot) (W : View) : Type 0 where
  pub enough : Enough C s i r q
  pub from : {v : Val} → W v ≡ true → (j : ℕ) × (s.aux i r q j ≡ some v) × (s.adm i r q v ≡ true)
  pub all : {j : ℕ} {v : Val} → j < C.n → s.aux i r q j ≡ some v → s.adm i r q v ≡ true → W v ≡ true

-- ---- Steps

-- from s to s'. What counts for echoes, admissions and views is judged by c, which in a run is s itself.
pub record Step (C : Vote) (R : Rule) (c s s' : State) : Type 0 where
  -- nothing said or done is taken back
  pub keep_sent_val : {i r : ℕ} {q : Slot} {v : Val} → s.sent_val i r q v ≡ true → s'.sent_val i r q v ≡ true
  pub keep_sent_aux : {i r : ℕ} {q : Slot} {v : Val} → s.sent_aux i r q ≡ some v → s'.sent_aux i r q ≡ some v
  pub keep_hist : Grows s.hist s'.hist
  -- what arrives from an honest sender was said by it; from a liar anything may
  pub new_val : {i r : ℕ} {q : Slot} {v : Val} {j : ℕ} → s'.val i r q v j ≡ true
      → (s.val i r q v j ≡ true) ⊎ (C.honest j ≡ true → s.sent_val j r q v ≡ true)
  pub new_aux : {i r : ℕ} {q : Slot} {j : ℕ} {v : Val} → s'.aux i r q j ≡ some v
      → (s.aux i r q j ≡ some v) ⊎ (C.honest j ≡ true → s.sent_aux j r q ≡ some v)
  -- an honest host says the VAL of a value with which it enters, or of one that more than t hosts sent it
  pub new_sent_val : {i r : ℕ} {q : Slot} {v : Val} → Honest C i → s'.sent_val i r q v ≡ true
      → (s.sent_val i r q v ≡ true) ⊎ (R.Enters s'.hist i r q v ⊎ (C.t < count C.n (c.val i r q v)))
  -- it allows what more than 2t hosts sent it
  pub new_adm : {i r : ℕ} {q : Slot} {v : Val} → s'.adm i r q v ≡ true
      → (s.adm i r q v ≡ true) ⊎ (2 * C.t < count C.n (c.val i r q v))
  -- it completes an instance with its view
  pub new_saw : {i r : ℕ} {q : Slot} {W : View} → s'.hist i (saw r q W) → s.hist i (saw r q W) ⊎ Viewed C c i r q W

-- nothing has happened yet, but for proposals
pub record Start (s : State) : Type 0 where
  pub no_val : {i r : ℕ} {q : Slot} {v : Val} {j : ℕ} → s.val i r q v j ≡ true → ⊥
  pub no_aux : {i r : ℕ} {q : Slot} {j : ℕ} {v : Val} → s.aux i r q j ≡ some v → ⊥
  pub no_sent_val : {i r : ℕ} {q : Slot} {v : Val} → s.sent_val i r q v ≡ true → ⊥
  pub no_adm : {i r : ℕ} {q : Slot} {v : Val} → s.adm i r q v ≡ true → ⊥
  pub no_saw : {i r : ℕ} {q : Slot} {W : View} → s.hist i (saw r q W) → ⊥

-- what steps reach
pub data Reached (C : Vote) (R : Rule) : State → Type 1 where
  start : {s : State} → Start s → Reached C R s
  step : {s s' : State} → Reached C R s → Step C R s s s' → Reached C R s'

-- ---- What every step keeps

-- n−t hosts, of which the honest have said an AUX of a value of W
abbrev pub Quorum : Vote → State → ℕ → Slot → View → Type 0
Quorum C s r q W =
    (p : ℕ → Bool)
    × (C.n ≤ C.t + count C.n p)
    × ((j : ℕ) → j < C.n → p j ≡ true → C.honest j ≡ true → (v : Val) × (s.sent_aux j r q ≡ some v) × (W v ≡ true))

-- some host enters with v
abbrev pub Entered : Rule → History → ℕ → Slot → Val → Type 0
Entered R D r q v = (k : ℕ) × R.Enters D k r q v

-- what is held of an honest sender it has said; what an honest host has said, what is admitted and what a view holds is an own value of some
-- host; a view has its quorum
pub record Inv (C : Vote) (R : Rule) (s : State) : Type 0 where
  pub val_sent : {i r : ℕ} {q : Slot} {v : Val} {j : ℕ} → s.val i r q v j ≡ true → C.honest j ≡ true → s.sent_val j r q v ≡ true
  pub aux_sent_lem : {i r : ℕ} {q : Slot} {j : ℕ} {v : Val} → s.aux i r q j ≡ some v → C.honest j ≡ true → s.sent_aux j r q ≡ some v
  pub sent_in : {i r : ℕ} {q : Slot} {v : Val} → Honest C i → s.sent_val i r q v ≡ true → Entered R s.hist r q v
  pub adm_in : {i r : ℕ} {q : Slot} {v : Val} → s.adm i r q v ≡ true → Entered R s.hist r q v
  pub saw_in : {i r : ℕ} {q : Slot} {W : View} {v : Val} → s.hist i (saw r q W) → W v ≡ true → Entered R s.hist r q v
  pub quorum : {i r : ℕ} {q : Slot} {W : View} → s.hist i (saw r q W) → Quorum C s r q W

allowed_value : (A : Val → Bool) (o : Option Val) → allows A o ≡ true → (v : Val) × (o ≡ some v) × (A v ≡ true)
allowed_value A none h = absurd (false≢true h)
allowed_value A (some v) h = (v, refl, h)

module _ (C : Vote) (R : Rule) (s s' : State) (m : Step C R s s s') (I : Inv C R s) where
  in_keep : {r : ℕ} {q : Slot} {v : Val} → Entered R s.hist r q v → Entered R s'.hist r q v
  in_keep (k, z) = (k, R.keeps s.hist s'.hist m.keep_hist k _ _ _ z)

  -- a value that more than t hosts sent to one is the own value of an honest host
  many_in : (i r : ℕ) (q : Slot) (v : Val) → C.t < count C.n (s.val i r q v) → Entered R s'.hist r q v
  many_in i r q v h =
      let (x, l, e, g) = one_honest C.n C.t C.honest C.few (s.val i r q v) h in
      in_keep (I.sent_in (l, g) (I.val_sent e g))

  inv_val : {i r : ℕ} {q : Slot} {v : Val} {j : ℕ} → s'.val i r q v j ≡ true → C.honest j ≡ true → s'.sent_val j r q v ≡ true
  inv_val h g = m.keep_sent_val (⊎_elim (λ x. I.val_sent x g) (λ f. f g) (m.new_val h))

  inv_aux : {i r : ℕ} {q : Slot} {j : ℕ} {v : Val} → s'.aux i r q j ≡ some v → C.honest j ≡ true → s'.sent_aux j r q ≡ some v
  inv_aux h g = m.keep_sent_aux (⊎_elim (λ x. I.aux_sent_lem x g) (λ f. f g) (m.new_aux h))

  inv_sent : {i r : ℕ} {q : Slot} {v : Val} → Honest C i → s'.sent_val i r q v ≡ true → Entered R s'.hist r q v
  inv_sent {i} {r} {q} {v} g h =
      ⊎_elim (λ x. in_keep (I.sent_in g x)) (⊎_elim (λ z. (i, z)) (λ c. many_in i r q v c)) (m.new_sent_val g h)

  inv_adm : {i r : ℕ} {q : Slot} {v : Val} → s'.adm i r q v ≡ true → Entered R s'.hist r q v
  inv_adm {i} {r} {q} {v} h = ⊎_elim (λ x. in_keep (I.adm_in x)) (λ c. many_in i r q v (omega arith)) (m.new_adm h)

  inv_saw : {i r : ℕ} {q : Slot} {W : View} {v : Val} → s'.hist i (saw r q W) → W v ≡ true → Entered R s'.hist r q v
  inv_saw d h = ⊎_elim (λ x. in_keep (I.saw_in x h)) (λ w. in_keep (I.adm_in (w.from h).2)) (m.new_saw d)

  inv_quorum : {i r : ℕ} {q : Slot} {W : View} → s'.hist i (saw r q W) → Quorum C s' r q W
  inv_quorum {i} {r} {q} d =
      ⊎_elim
      (λ x. let (p, c, f) = I.quorum x in (p, c, λ j l e g. let (v, a, b) = f j l e g in (v, m.keep_sent_aux a, b)))
      (λ w. (
        (λ j. allows (s.adm i r q) (s.aux i r q j)),
        w.enough,
        λ j l e g.
            let (v, a, b) = allowed_value (s.adm i r q) (s.aux i r q j) e in (v, m.keep_sent_aux (I.aux_sent_lem a g), w.all l a b),
      ))
      (m.new_saw d)

  inv_step : Inv C R s'
  inv_step = record { val_sent = inv_val; aux_sent_lem = inv_aux; sent_in = inv_sent; adm_in = inv_adm; saw_in = inv_saw; quorum = inv_quorum }

inv_start : (C : Vote) (R : Rule) (s : State) → Start s → Inv C R s
inv_start C R s z = record {
  val_sent = λ h. absurd (z.no_val h);
  aux_sent_lem = λ h. absurd (z.no_aux h);
  sent_in = λ _ h. absurd (z.no_sent_val h);
  adm_in = λ h. absurd (z.no_adm h);
  saw_in = λ d. absurd (z.no_saw d);
  quorum = λ d. absurd (z.no_saw d);
}

-- every state that is reached has it
pub inv : {C : Vote} {R : Rule} {s : State} → Reached C R s → Inv C R s
inv {C} {R} {s} (start z) = inv_start C R s z
inv {C} {R} {s = s'} (step {s} x m) = inv_step C R s s' m (inv x)

-- ---- What a rule's theorems use

quorums_meet : (C : Vote) (s : State) (r : ℕ) (q : Slot) (W X : View) → Quorum C s r q W → Quorum C s r q X → (v : Val) × (W v ≡ true) × (X v ≡ true)
quorums_meet C s r q W X (p, c, f) (p', c', f') =
    let (x, l, e, e', g) = shared_honest C.n C.t C.honest C.few C.big p p' c c' in
    let (v, a, h) = f x l e g in
    let (v', a', h') = f' x l e' g in
    let z : v' ≡ v = cc in
    (v, h, rw z at h')

-- two views share the value that an honest host of both quorums said; each value of a view is some host's own
pub sound : {C : Vote} {R : Rule} {s : State} → Inv C R s → Sound s.hist (R.Enters s.hist)
sound {C} {R} {s} I = record {
  meet = λ {i} {j} {r} {q} {W} {X} d e. quorums_meet C s r q W X (I.quorum d) (I.quorum e);
  just = I.saw_in;
}

-- ---- How many values a host says

-- how many of the three values pass a test
abbrev pub several : (Val → Bool) → ℕ
several p = one (p v0) + one (p v1) + one (p neither)

one_low : (b : Bool) → one b ≤ 1
one_low true = omega arith
one_low false = omega arith

not_all : (a b c : Bool) → (a ≡ true → b ≡ true → c ≡ true → ⊥) → one a + one b + one c ≤ 2
not_all true true true f = absurd (f refl refl refl)
not_all true true false f = omega arith
not_all true false c f = omega (arith, one_low c)
not_all false b c f = omega (arith, one_low b, one_low c)

-- one at most, where any two that pass are equal
pub several_one : (p : Val → Bool) → ((v w : Val) → p v ≡ true → p w ≡ true → v ≡ w) → several p ≤ 1
several_one p h = go (p v0) (p v1) (p neither) (h v0 v1) (h v0 neither) (h v1 neither)
  where
    go : (a b c : Bool) → (a ≡ true → b ≡ true → v0 ≡ v1) → (a ≡ true → c ≡ true → v0 ≡ neither) → (b ≡ true → c ≡ true → v1 ≡ neither) → one a + one b + one c ≤ 1
    go true true c f g k = let z : ◌≡◌ {A = ℕ} 0 1 = cc (f refl refl) in absurd (omega arith)
    go true false true f g k = let z : ◌≡◌ {A = ℕ} 0 1 = cc (g refl refl) in absurd (omega arith)
    go true false false f g k = omega arith
    go false true true f g k = let z : ◌≡◌ {A = ℕ} 0 1 = cc (k refl refl) in absurd (omega arith)
    go false true false f g k = omega arith
    go false false c f g k = omega (arith, one_low c)

-- of an instance that is not entered with three values an honest host says two at most, and of one that is entered with one value one
module _ {C : Vote} {R : Rule} {s : State} (I : Inv C R s) (i r : ℕ) (q : Slot) (g : Honest C i) where
  pub says_two : NotThree (R.Enters s.hist) r q → several (s.sent_val i r q) ≤ 2
  says_two f =
      not_all (s.sent_val i r q v0) (s.sent_val i r q v1) (s.sent_val i r q neither)
      (λ a b c. f _ _ _ (I.sent_in g a).1 (I.sent_in g b).1 (I.sent_in g c).1)

  pub says_one : NotTwo (R.Enters s.hist) r q → several (s.sent_val i r q) ≤ 1
  says_one f = several_one (s.sent_val i r q) (λ v w a b. f _ _ v w (I.sent_in g a).1 (I.sent_in g b).1)

-- ---- A view

-- the same words with another history
abbrev pub grow : State → History → State
grow s D = record { val = s.val; aux = s.aux; sent_val = s.sent_val; sent_aux = s.sent_aux; adm = s.adm; hist = D }

saw_cases : (C : Vote) (c s : State) (i r : ℕ) (q : Slot) (W : View) → Viewed C c i r q W
    → (a b : ℕ) (p : Slot) (X : View) → Add s.hist i (saw r q W) a (saw b p X) → s.hist a (saw b p X) ⊎ Viewed C c a b p X
saw_cases C c s i r q W w a b p X (old d) = inl d
saw_cases C c s i r q W w a b p X new = inr w

-- a host completes an instance
pub step_saw : (C : Vote) (R : Rule) (c s : State) (i r : ℕ) (q : Slot) (W : View) → Viewed C c i r q W
    → Step C R c s (grow s (Add s.hist i (saw r q W)))
step_saw C R c s i r q W w = record {
  keep_sent_val = λ h. h;
  keep_sent_aux = λ h. h;
  keep_hist = λ _ _. old;
  new_val = inl;
  new_aux = inl;
  new_sent_val = λ _. inl;
  new_adm = inl;
  new_saw = λ {i = a} {r = b} {q = p} {W = X} d. saw_cases C c s i r q W w a b p X d;
}

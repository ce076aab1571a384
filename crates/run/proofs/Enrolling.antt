-- How the loop of `enrol` reads the records one by one. Assumes nothing.
use Prim.Native.Nat.{ℕ, zero, suc, ◌+◌, ◌-◌, ◌<◌}
use mathlib.Core.Path.{◌≡◌, refl, ◌∙◌}
use mathlib.Core.List.{List}
use native.Mathlib.Nat.{add-zero, add-suc}
use native.Mathlib.Omega.{arith}
use lib.ListN.{set}
use Rattle.answer.specs.Answer.{Answer, refused, accepted, past, guarded}
use Rattle.answer.proofs.Guards.{clear, lets, refuses, stops, goes_on}
use Rattle.host.specs.declared.Host.{Host}
use Rattle.file.specs.Layouts.{three_at, first_host}
use Rattle.file.specs.Reading.{record_guards, enrolling}
use Rattle.run.specs.Starting.{record_place, enrolled, records_guards}

-- the first k records are accepted
abbrev pub Read : List ℕ → ℕ → Type 0
Read bytes k = ◌≡◌ {A = Answer Unit} (guarded (records_guards bytes k) tt) (accepted tt)

module _ (bytes : List ℕ) where
  pub reads_none : Read bytes zero
  unfolding records_guards
  reads_none = refl

  -- one record more
  pub reads_one : (k : ℕ) {h : Host} → Read bytes k → enrolling bytes (record_place k) ≡ accepted h → Read bytes (suc k)
  unfolding records_guards enrolling
  reads_one k r e =
      goes_on (records_guards bytes k) (record_guards bytes (record_place k)) tt (accepted tt) r
      ∙ lets (record_guards bytes (record_place k)) (first_host (three_at bytes (record_place k))) (accepted tt) e

  pub enrols_one : (k : ℕ) {h : Host} (hosts : List Host) → hosts ≡ enrolled bytes k → enrolling bytes (record_place k) ≡ accepted h
      → set hosts k h ≡ enrolled bytes (suc k)
  unfolding enrolled enrolling
  enrols_one k hosts same e =
      let (_, host) = clear (record_guards bytes (record_place k)) (first_host (three_at bytes (record_place k))) e in
      rw (same, host) refl

  -- a record that is refused after k that are not refuses all
  stops_at : (k : ℕ) {j : ℕ} → Read bytes k → enrolling bytes (record_place k) ≡ refused j
      → ◌≡◌ {A = Answer Unit} (guarded (records_guards bytes (suc k)) tt) (refused j)
  unfolding records_guards enrolling
  stops_at k r e =
      goes_on (records_guards bytes k) (record_guards bytes (record_place k)) tt (accepted tt) r
      ∙ refuses (record_guards bytes (record_place k)) (first_host (three_at bytes (record_place k))) (accepted tt) e

  stays_stopped : (k d : ℕ) {j : ℕ} → ◌≡◌ {A = Answer Unit} (guarded (records_guards bytes k) tt) (refused j)
      → ◌≡◌ {A = Answer Unit} (guarded (records_guards bytes (k + d)) tt) (refused j)
  unfolding records_guards
  stays_stopped k zero e = rw add-zero e
  stays_stopped k (suc d) e =
      rw add-suc (stops (records_guards bytes (k + d)) (record_guards bytes (record_place (k + d))) tt (accepted tt) (stays_stopped k d e))

  pub records_stop : (k n : ℕ) {j : ℕ} {A : Type 0} (x : Answer A) → k < n → Read bytes k → enrolling bytes (record_place k) ≡ refused j
      → past (records_guards bytes n) x ≡ refused j
  records_stop k n {j} x l r e =
      let same : suc k + (n - suc k) ≡ n = omega arith in
      refuses (records_guards bytes n) tt x (rw same at (stays_stopped (suc k) (n - suc k) (stops_at k r e)))

  pub records_pass : (n : ℕ) {A : Type 0} (x : Answer A) → Read bytes n → past (records_guards bytes n) x ≡ x
  records_pass n x r = lets (records_guards bytes n) tt x r

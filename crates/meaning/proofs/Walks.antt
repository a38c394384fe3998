-- What a walk that met no fault says of its tests and of its parts: document 01, "Rule image", "The first fault met decides". Assumes nothing.
use Rattle.std.specs.Prelude.{◌≡◌, refl, Bool, true, false, cond, ℕ}
use Rattle.std.proofs.Common.{ap, sym, arith, Ok, Err}
use Rattle.model.specs.declared.Fault.{Fault}
use Rattle.model.specs.Answers.{Walk, met}
use Rattle.model.specs.Image.{onward}

-- a walk stands at one place, with one count of variables seen
pub same_place : {at seen end after : ℕ} → ◌≡◌ {A = Walk} (Ok (at, seen)) (Ok (end, after)) → (end ≡ at) × (after ≡ seen)
same_place {at} {seen} {end} {after} e = let z : ◌≡◌ {A = ℕ × ℕ} (at, seen) (end, after) = cc in (sym (ap (λ (p : ℕ × ℕ). p.0) z), sym (ap (λ (p : ℕ × ℕ). p.1) z))

-- a test that had to hold, held
pub cond-held : (test : Bool) {judged : Walk} (fault : Fault) (at : ℕ) {end after : ℕ} → cond test judged (met fault at) ≡ Ok (end, after) → (test ≡ true) × (judged ≡ Ok (end, after))
cond-held true fault at e = (refl, e)
cond-held false fault at e = let z : ◌≡◌ {A = ℕ} 0 1 = cc in absurd (omega arith)

-- a test that had to fail, failed
pub cond-failed : (test : Bool) {judged : Walk} (fault : Fault) (at : ℕ) {end after : ℕ} → cond test (met fault at) judged ≡ Ok (end, after) → (test ≡ false) × (judged ≡ Ok (end, after))
cond-failed true fault at e = let z : ◌≡◌ {A = ℕ} 0 1 = cc in absurd (omega arith)
cond-failed false fault at e = (refl, e)

-- what came before went on, and what comes next did so from there
pub record Passed (next : ℕ → ℕ → Walk) (walk : Walk) (end after : ℕ) : Type 0 where
  pub place : ℕ
  pub seen : ℕ
  pub before : walk ≡ Ok (place, seen)
  pub behind : next place seen ≡ Ok (end, after)

pub onward-passed : (next : ℕ → ℕ → Walk) (walk : Walk) {end after : ℕ} → onward next walk ≡ Ok (end, after) → Passed next walk end after
onward-passed next (Ok (at, seen)) e = record { place = at; seen = seen; before = refl; behind = e }
onward-passed next (Err stop) e = let z : ◌≡◌ {A = ℕ} 0 1 = cc in absurd (omega arith)

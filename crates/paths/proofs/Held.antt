-- What tests that held say of their parts: document 01, "Refused calls", condition 21, whose clauses are tests joined by "and", "or" and "each". Assumes nothing.
use Rattle.std.specs.Prelude.{◌≡◌, refl, Bool, true, false, cond, ◌&&◌, ◌||◌, List, ℕ, ◌+◌, ◌<◌, eqb, get_or}
use Rattle.std.proofs.Common.{sym, ap, ◌∙◌, arith, zero-add, eqb-true}
use Rattle.model.specs.Damage.{each, zeros}
use Rattle.memory.proofs.LoopLaws.{each_holds}

pub and-held : (a b : Bool) → (a && b) ≡ true → (a ≡ true) × (b ≡ true)
and-held true b e = (refl, e)
and-held false b e = let z : ◌≡◌ {A = ℕ} 0 1 = cc in absurd (omega arith)

pub three-held : (a b c : Bool) → (a && b && c) ≡ true → (a ≡ true) × (b ≡ true) × (c ≡ true)
three-held a b c e =
    let last = and-held (a && b) c e in
    let front = and-held a b last.0 in
    (front.0, front.1, last.1)

pub four-held : (a b c d : Bool) → (a && b && c && d) ≡ true → (a ≡ true) × (b ≡ true) × (c ≡ true) × (d ≡ true)
four-held a b c d e =
    let last = and-held (a && b && c) d e in
    let front = three-held a b c last.0 in
    (front.0, front.1, front.2, last.1)

-- of two tests joined by "or" the second held where the first failed
pub or-second : (a b : Bool) → (a || b) ≡ true → a ≡ false → b ≡ true
or-second true b e q = let z : ◌≡◌ {A = ℕ} 0 1 = cc in absurd (omega arith)
or-second false b e q = e

-- of a choice between two tests the one that was chosen held
pub cond-first : (test a b : Bool) → cond test a b ≡ true → test ≡ true → a ≡ true
cond-first true a b e q = e
cond-first false a b e q = let z : ◌≡◌ {A = ℕ} 0 1 = cc in absurd (omega arith)

pub cond-second : (test a b : Bool) → cond test a b ≡ true → test ≡ false → b ≡ true
cond-second true a b e q = let z : ◌≡◌ {A = ℕ} 0 1 = cc in absurd (omega arith)
cond-second false a b e q = e

-- a test of all numbers below one
pub all_held : (test : ℕ → Bool) (count : ℕ) → each count test 0 ≡ true → (k : ℕ) → k < count → test k ≡ true
all_held test count e k h = ap test (sym (zero-add k)) ∙ each_holds test count 0 e k h

pub zeros-held : (count : ℕ) (words : List ℕ) (at : ℕ) → zeros count words at ≡ true → (k : ℕ) → k < count → get_or words (at + k) 0 ≡ 0
unfolding zeros
zeros-held count words at e k h = eqb-true (get_or words (at + k) 0) 0 (each_holds (λ j. eqb (get_or words j 0) 0) count at e k h)

-- Arguments in the order of their words, numbered by first appearance, and what a walk over their code has to find: document 01, "Rule image",
-- "Variables are numbered 0, 1, .. by first appearance". Code and arguments of two parts are put together, and taken apart. Assumes nothing.
use Rattle.std.specs.Prelude.{◌≡◌, refl, List, [], ◌∷◌, ◌++◌, ℕ, suc, ◌+◌, ◌≤◌, max, length}
use Rattle.std.proofs.Common.{sym, ap, ◌∙◌, arith, length-append}
use Rattle.model.specs.Rules.{Argument, con, var}
use Rattle.model.specs.Encoding.{Each, WellFormedArgs, seen_with, seen_after}
use Rattle.meaning.proofs.Stands.{stands-append, stands-left, stands-right}
use Rattle.meaning.specs.Reading.{Read, ArgBelow}

pub seen_with-grows : (seen : ℕ) (arg : Argument) → seen ≤ seen_with seen arg
unfolding seen_with
seen_with-grows seen (con constant) = omega arith
seen_with-grows seen (var number) = omega arith

pub seen_after-grows : (seen : ℕ) (args : List Argument) → seen ≤ seen_after seen args
unfolding seen_after
seen_after-grows seen [] = omega arith
seen_after-grows seen (arg ∷ args) = omega (arith, seen_with-grows seen arg, seen_after-grows (seen_with seen arg) args)

pub seen_after-append : (seen : ℕ) (first second : List Argument) → seen_after seen (first ++ second) ≡ seen_after (seen_after seen first) second
unfolding seen_after
seen_after-append seen [] second = refl
seen_after-append seen (arg ∷ first) second = seen_after-append (seen_with seen arg) first second

args-append : (seen : ℕ) (first second : List Argument) → WellFormedArgs seen first → WellFormedArgs (seen_after seen first) second → WellFormedArgs seen (first ++ second)
unfolding seen_after
args-append seen [] second h k = k
args-append seen (arg ∷ first) second h k = (h.0, args-append (seen_with seen arg) first second h.1 k)

args-left : (seen : ℕ) (first second : List Argument) → WellFormedArgs seen (first ++ second) → WellFormedArgs seen first
args-left seen [] second h = tt
args-left seen (arg ∷ first) second h = (h.0, args-left (seen_with seen arg) first second h.1)

args-right : (seen : ℕ) (first second : List Argument) → WellFormedArgs seen (first ++ second) → WellFormedArgs (seen_after seen first) second
unfolding seen_after
args-right seen [] second h = h
args-right seen (arg ∷ first) second h = args-right (seen_with seen arg) first second h.1

module _ (first second : List ℕ) (left right : List Argument) {words : List ℕ} {declared at seen end after : ℕ} where
  pub read-append : {place between next : ℕ} → Read words first left declared at seen place between → next ≡ at + length first → Read words second right declared next between end after
      → Read words (first ++ second) (left ++ right) declared at seen end after
  read-append a e b = record {
    stands = stands-append words first second at a.stands e b.stands;
    ends = omega (arith, b.ends, length-append first second);
    numbered = args-append seen left right a.numbered (rw a.counted at b.numbered);
    counted = b.counted ∙ ap (λ (n : ℕ). seen_after n right) a.counted ∙ sym (seen_after-append seen left right);
    kept = b.kept;
  }

  pub read_left : Read words (first ++ second) (left ++ right) declared at seen end after → Read words first left declared at seen (at + length first) (seen_after seen left)
  read_left a = record {
    stands = stands-left words first second at a.stands;
    ends = refl;
    numbered = args-left seen left right a.numbered;
    counted = refl;
    kept = omega (arith, a.kept, a.counted, seen_after-append seen left right, seen_after-grows (seen_after seen left) right);
  }

  pub read_right : Read words (first ++ second) (left ++ right) declared at seen end after → Read words second right declared (at + length first) (seen_after seen left) end after
  read_right a = record {
    stands = stands-right words first second at a.stands;
    ends = omega (arith, a.ends, length-append first second);
    numbered = args-right seen left right a.numbered;
    counted = a.counted ∙ seen_after-append seen left right;
    kept = a.kept;
  }

-- every variable that appears is below the count of those that appear
pub args-below : (count seen : ℕ) (args : List Argument) → seen_after seen args ≤ count → Each (ArgBelow count) args
unfolding seen_after seen_with
args-below count seen [] h = tt
args-below count seen (con constant ∷ args) h = (tt, args-below count seen args h)
args-below count seen (var number ∷ args) h =
    (omega (arith, seen_after-grows (max seen (suc number)) args), args-below count (max seen (suc number)) args h)

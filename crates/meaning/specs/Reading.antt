-- Definitions: arguments in the order of their words, as a walk over their code has to find them, and that an argument's variable is below a count.
-- Document 01, "Rule image", "Variables are numbered 0, 1, .. by first appearance". Assumes nothing.
use Rattle.std.specs.Prelude.{◌≡◌, List, ℕ, ◌+◌, ◌≤◌, ◌<◌, length}
use Rattle.model.specs.Rules.{Argument, con, var}
use Rattle.model.specs.Encoding.{WellFormedArgs, seen_after}
use Rattle.meaning.specs.Stands.{Stands}

-- the code of these arguments stands at a place where so many variables were seen, and ends at a place where so many are; none is past those declared
pub record Read (words code : List ℕ) (args : List Argument) (declared at seen end after : ℕ) : Type 0 where
  pub stands : Stands words at code
  pub ends : end ≡ at + length code
  pub numbered : WellFormedArgs seen args
  pub counted : after ≡ seen_after seen args
  pub kept : after ≤ declared

-- an argument's variable is below a count
abbrev pub ArgBelow : ℕ → Argument → Type 0
ArgBelow count (con constant) = Unit {0}
ArgBelow count (var number) = number < count

-- How long a clause is at most: 16 goals, each with at most 15 arguments, behind the CLAUSE word and the head's arguments. Document 01, "Rule image", CLAUSE.
-- A clause's length fits its 16 bits: at most 16 goals, each with at most 15 arguments, make at most 272 words. Assumes nothing.
use mathlib.Core.List.{List, [], ◌∷◌, flat_map}
use Prim.Native.Nat.{ℕ, ◌+◌, ◌*◌, ◌≤◌}
use native.Mathlib.Omega.{arith}
use Rattle.std.proofs.Math.ListN.{length, length-append, length-map}
use Rattle.model.specs.Rules.{Goal, call, Clause, Rules}
use Rattle.model.specs.Encoding.{Each, encode_arg, encode_goal, encode_body, encode_clause, WellFormedGoal, WellFormedClause}
use Rattle.meaning.proofs.Goals.{Declares}

module _ {image : List ℕ} {program : Rules} (known : Declares image program) (head_arity : ℕ) (narrow : head_arity ≤ 15) where
  goals-short : (all : List Goal) → Each (WellFormedGoal program) all → length (flat_map encode_goal all) ≤ 16 * length all
  unfolding flat_map encode_goal
  goals-short [] good = omega arith
  goals-short (call predicate args ∷ all) good =
      simp length-append (omega (arith, length-map args encode_arg, good.0.1, known.narrow predicate, goals-short all good.1))

  pub clause-short : (one : Clause) → WellFormedClause program head_arity one → length (encode_clause one) ≤ 257 + head_arity
  unfolding encode_clause encode_body
  clause-short one good =
      simp length-append (omega (arith, length-map one.head encode_arg, good.heads, goals-short one.goals good.calls, good.goal_count))

-- The encoding of a well-formed rule set, and of a well-formed query, is a list of words of 32 bits: every field fits its width. Document 01, "words have 32 bits". Assumes nothing.
use mathlib.Core.List.{List, [], ◌∷◌, ◌++◌, map, flat_map}
use Prim.Native.Nat.{ℕ, zero, suc, ◌+◌, ◌≤◌, max}
use Rattle.std.proofs.Common.{arith, length-append}
use Rattle.std.proofs.Math.ListN.{length}
use Rattle.model.specs.declared.Kind.TheVariants.{Header, Predicate as PredicateWord, Clause as ClauseWord, Var, Con, Goal as GoalWord}
use Rattle.model.specs.Fields.{widths_of, total}
use Rattle.model.specs.Rules.{Argument, con, var, Goal, call, Clause, Rules}
use Rattle.model.specs.Encoding.{Word, Words, Each, encode_arg, encode_goal, encode_body, encode_clause, encode_clauses, encode_mark, encode_predicates, encoded_length, encode, goal_args, clause_args, seen_with, seen_after, WellFormedArgs, WellFormedGoal, WellFormedClause, WellFormedPred, WellFormed, WellFormedQuery, encode_query}
use Rattle.model.specs.Decoding.{decode}
use Rattle.words.proofs.FieldLaws.{join-lt}
use Rattle.meaning.proofs.Stands.{stands-behind}
use Rattle.meaning.proofs.Reading.{seen_after-grows}
use Rattle.meaning.proofs.Goals.{Declares}
use Rattle.meaning.proofs.ClauseLengths.{clause-short}
use Rattle.meaning.proofs.Predicates.{mark-lt}
use Rattle.meaning.proofs.Headers.{declares-decoded}
use Rattle.meaning.proofs.Images.{encode-fits, encode-parts, declares-encoded}

each_append : {A : Type 0} (Good : A → Type 0) (first second : List A) → Each Good first → Each Good second → Each Good (first ++ second)
each_append Good [] second h k = k
each_append Good (one ∷ first) second h k = (h.0, each_append Good first second h.1 k)

each_left : {A : Type 0} (Good : A → Type 0) (first second : List A) → Each Good (first ++ second) → Each Good first
each_left Good [] second h = tt
each_left Good (one ∷ first) second h = (h.0, each_left Good first second h.1)

each_right : {A : Type 0} (Good : A → Type 0) (first second : List A) → Each Good (first ++ second) → Each Good second
each_right Good [] second h = h
each_right Good (one ∷ first) second h = each_right Good first second h.1

-- a read at any place, also past the end
each_read : (words : List ℕ) → Each Word words → Words words
each_read [] h i = omega arith
each_read (word ∷ words) h zero = h.0
each_read (word ∷ words) h (suc i) = each_read words h.1 i

-- an argument's word has 32 bits
abbrev ArgWord : Argument → Type 0
ArgWord arg = Word (encode_arg arg)

args-words : (seen : ℕ) (args : List Argument) → WellFormedArgs seen args → seen_after seen args ≤ 64 → Each ArgWord args
unfolding encode_arg seen_after seen_with widths_of total
args-words seen [] good few = tt
args-words seen (con value ∷ args) good few = (join-lt (widths_of Con) (2 ∷ value ∷ []) (omega (arith, good.0)), args-words seen args good.1 few)
args-words seen (var number ∷ args) good few =
    let grows = seen_after-grows (max seen (suc number)) args in
    (join-lt (widths_of Var) (1 ∷ 0 ∷ number ∷ []) (omega arith), args-words (max seen (suc number)) args good.1 few)

each-args : (args : List Argument) → Each ArgWord args → Each Word (map encode_arg args)
each-args [] h = tt
each-args (arg ∷ args) h = (h.0, each-args args h.1)

module _ {image : List ℕ} {program : Rules} (known : Declares image program) where
  goals-words : (all : List Goal) → Each (WellFormedGoal program) all → Each ArgWord (flat_map goal_args all) → Each Word (flat_map encode_goal all)
  unfolding flat_map encode_goal goal_args widths_of total
  goals-words [] good h = tt
  goals-words (call predicate args ∷ all) good h = (
    join-lt (widths_of GoalWord) (9 ∷ predicate ∷ 0 ∷ []) (omega (arith, good.0.0, known.few)),
    each_append Word (map encode_arg args) (flat_map encode_goal all) (each-args args (each_left ArgWord args (flat_map goal_args all) h))
        (goals-words all good.1 (each_right ArgWord args (flat_map goal_args all) h)),
  )

  module _ (head_arity : ℕ) (narrow : head_arity ≤ 15) where
    clause-words : (one : Clause) → WellFormedClause program head_arity one → Each Word (encode_clause one)
    unfolding encode_clause encode_body clause_args widths_of total
    clause-words one good =
        let args = args-words 0 (clause_args one) good.numbered (omega (arith, good.declared, good.variables)) in (
          join-lt (widths_of ClauseWord) (8 ∷ one.variables ∷ length one.goals ∷ suc (length (encode_body one)) ∷ [])
              (omega (arith, good.variables, good.goal_count, clause-short known head_arity narrow one good)),
          each_append Word (map encode_arg one.head) (flat_map encode_goal one.goals) (each-args one.head (each_left ArgWord one.head (flat_map goal_args one.goals) args))
              (goals-words one.goals good.calls (each_right ArgWord one.head (flat_map goal_args one.goals) args)),
        )

    clauses-words : (all : List Clause) → Each (WellFormedClause program head_arity) all → Each Word (flat_map encode_clause all)
    unfolding flat_map
    clauses-words [] good = tt
    clauses-words (one ∷ all) good = each_append Word (encode_clause one) (flat_map encode_clause all) (clause-words one good.0) (clauses-words all good.1)

  program-words : (all : Rules) → Each (WellFormedPred program) all → Each Word (flat_map encode_clauses all)
  unfolding flat_map encode_clauses
  program-words [] good = tt
  program-words (one ∷ all) good =
      each_append Word (encode_clauses one) (flat_map encode_clauses all) (clauses-words one.arity good.0.arity one.clauses good.0.clauses) (program-words all good.1)

predicates-words : (program all : Rules) (at : ℕ) → Each (WellFormedPred program) all → at + length (flat_map encode_clauses all) ≤ 131071 → Each Word (encode_predicates at all)
unfolding encode_predicates flat_map widths_of total
predicates-words program [] at good h = tt
predicates-words program (one ∷ all) at good h =
    let sum = length-append (encode_clauses one) (flat_map encode_clauses all) in (
      join-lt (widths_of PredicateWord) (one.arity ∷ encode_mark one.sequential ∷ length one.clauses ∷ at ∷ []) (omega (arith, mark-lt one.sequential, good.0.arity, good.0.clause_count)),
      predicates-words program all (at + length (encode_clauses one)) good.1 (omega arith),
    )

-- every word of an encoding has 32 bits
pub encode-words : (program : Rules) → WellFormed program → Words (encode program)
unfolding encode encoded_length widths_of total
encode-words program good i =
    let known = declares-encoded (encode program) program good (encode-parts (encode program) program good (stands-behind [] (encode program))) in
    each_read (encode program) (
      join-lt (widths_of Header) (1 ∷ length program ∷ 0 ∷ encoded_length program ∷ []) (omega (arith, good.predicate_count, encode-fits program good)),
      each_append Word (encode_predicates (1 + length program) program) (flat_map encode_clauses program)
          (predicates-words program program (1 + length program) good.predicates (encode-fits program good)) (program-words known program good.predicates),
    ) i

pub encode_query-words : (image : List ℕ) (query : Clause) → WellFormedQuery (decode image) query → Words (encode_query query)
unfolding encode_query
encode_query-words image query good i = each_read (encode_clause query) (clause-words (declares-decoded image) 0 (omega arith) query good.clause) i

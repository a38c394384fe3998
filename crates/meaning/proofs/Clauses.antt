-- Clauses: the walk over one finds no fault exactly where the encoding of a well-formed clause stands, and decoding gives it back. Document 01, "Rule image", CLAUSE, faults 6, 8, 9, 10, 15 and 16. Assumes nothing.
use Rattle.std.specs.Prelude.{◌≡◌}
use Rattle.std.proofs.Math.Path.{sym, ap}
use Rattle.std.proofs.Common.{◌∙◌, Ok}
use mathlib.Core.List.{List, ◌++◌, map, flat_map}
use Prim.Native.Nat.{ℕ, suc, ◌+◌, ◌≤◌, ◌<◌}
use native.Mathlib.Omega.{arith}
use Rattle.std.proofs.Math.ListN.{length, get_or, length-map}
use Rattle.model.specs.Fields.{variables, goal_count, clause_length}
use Rattle.model.specs.Image.{onward, arguments, goals, clause_word, clause_end, clause}
use Rattle.model.specs.Rules.{Clause, Rules}
use Rattle.model.specs.Encoding.{Word, Words, Each, encode_arg, encode_goal, encode_body, encode_clause, goal_args, clause_args, seen_after, WellFormedGoal, WellFormedClause}
use Rattle.model.specs.Decoding.{decode_args, decode_goals, decode_clause}
use Rattle.meaning.specs.Stands.{Stands}
use Rattle.meaning.proofs.Walks.{onward-passed}
use Rattle.meaning.specs.Reading.{Read}
use Rattle.meaning.proofs.Reading.{read-append, read_left, read_right}
use Rattle.meaning.specs.ClauseWords.{ClauseFields}
use Rattle.meaning.proofs.ClauseWords.{clause-fields, clause-word, ClauseFound, clause_word-sound, EndFound, clause_end-sound, clause_word-complete, clause_end-complete}
use Rattle.meaning.proofs.Arguments.{arguments-complete, arguments-decode, arguments_sound, length-decode_args}
use Rattle.meaning.proofs.ClauseLengths.{clause-short}
use Rattle.meaning.proofs.Goals.{Declares, goals-complete, goals-decode, goals-sound, length-decode_goals}

pub clause-there : (words : List ℕ) (one : Clause) (at : ℕ) → Stands words at (encode_clause one) → at < length words
unfolding encode_clause
clause-there words one at h = h.0

module _ {image : List ℕ} {program : Rules} (known : Declares image program) (head_arity : ℕ) (narrow : head_arity ≤ 15) where
  module _ (words : List ℕ) where
    -- what is read where a clause's encoding stands
    pub clause-here : (one : Clause) (at : ℕ) → WellFormedClause program head_arity one → Stands words at (encode_clause one)
        → ClauseFields (get_or words at 0) one.variables (length one.goals) (length (encode_clause one))
    unfolding encode_clause
    clause-here one at good h =
        rw h.1 (clause-fields one.variables (length one.goals) (suc (length (encode_body one))) good.variables good.goal_count (omega (arith, clause-short known head_arity narrow one good)))

    -- its arguments, head first, as the walk meets them
    clause-body : (one : Clause) (at : ℕ) → WellFormedClause program head_arity one → Stands words at (encode_clause one)
        → Read words (encode_body one) (clause_args one) one.variables (at + 1) 0 (at + length (encode_clause one)) one.variables
    unfolding encode_clause
    clause-body one at good h = record { stands = h.2; ends = omega arith; numbered = good.numbered; counted = sym good.declared; kept = omega arith }

    -- the head arguments stand behind the CLAUSE word
    pub clause-heads : (one : Clause) (at : ℕ) → WellFormedClause program head_arity one → Stands words at (encode_clause one)
        → Read words (map encode_arg one.head) one.head one.variables (at + 1) 0 (at + 1 + head_arity) (seen_after 0 one.head)
    unfolding encode_body clause_args
    clause-heads one at good h =
        let e : length (map encode_arg one.head) ≡ head_arity = length-map one.head encode_arg ∙ good.heads in
        rw e at (read_left (map encode_arg one.head) (flat_map encode_goal one.goals) one.head (flat_map goal_args one.goals) (clause-body one at good h))

    -- the goals behind them
    pub clause-goals : (one : Clause) (at : ℕ) → WellFormedClause program head_arity one → Stands words at (encode_clause one)
        → Read words (flat_map encode_goal one.goals) (flat_map goal_args one.goals) one.variables (at + 1 + head_arity) (seen_after 0 one.head) (at + length (encode_clause one)) one.variables
    unfolding encode_body clause_args
    clause-goals one at good h =
        let e : length (map encode_arg one.head) ≡ head_arity = length-map one.head encode_arg ∙ good.heads in
        rw e at (read_right (map encode_arg one.head) (flat_map encode_goal one.goals) one.head (flat_map goal_args one.goals) (clause-body one at good h))

    -- the encoding decodes to the clause
    pub clause-decode : (one : Clause) (at : ℕ) → WellFormedClause program head_arity one → Stands words at (encode_clause one) → decode_clause image words head_arity at ≡ one
    unfolding decode_clause
    clause-decode one at good h =
        let f = clause-here one at good h in
        let few : one.variables ≤ 64 = omega (arith, good.variables) in
        let heads : decode_args head_arity words (at + 1) ≡ one.head =
        ap (λ (n : ℕ). decode_args n words (at + 1)) (sym good.heads) ∙ arguments-decode one.head few (clause-heads one at good h) in
        let rest : decode_goals (goal_count (get_or words at 0)) image words (at + 1 + head_arity) ≡ one.goals =
        ap (λ (n : ℕ). decode_goals n image words (at + 1 + head_arity)) f.is_count ∙ goals-decode known words one.goals few good.calls (clause-goals one at good h) in
        λ i. record { variables = f.is_vars i; head = heads i; goals = rest i }

    -- the walk finds no fault where the encoding of a well-formed clause stands
    pub clause-complete : (one : Clause) (fewest at : ℕ) → WellFormedClause program head_arity one → fewest ≤ length one.goals → Stands words at (encode_clause one)
        → clause image words fewest head_arity at ≡ Ok (at + length (encode_clause one), 0)
    unfolding clause
    clause-complete one fewest at good enough h =
        let f = clause-here one at good h in
        let few : one.variables ≤ 64 = omega (arith, good.variables) in
        let heads : arguments head_arity words one.variables (at + 1) 0 ≡ Ok (at + 1 + head_arity, seen_after 0 one.head) =
        ap (λ (n : ℕ). arguments n words one.variables (at + 1) 0) (sym good.heads) ∙ arguments-complete one.head few (clause-heads one at good h) in
        let rest = goals-complete known words one.goals few good.calls (clause-goals one at good h) in
        let first = clause_word-complete words fewest at f (clause-there words one at h) good.variables good.goal_count enough in
        rw (f.is_vars, f.is_count, first, heads, rest) (clause_end-complete (get_or words at 0) at f)

    -- where the walk found none, the encoding stands of the clause that the words decode to, and it is well formed
    pub record ClauseStands (fewest at end after : ℕ) : Type 0 where
      pub stands : Stands words at (encode_clause (decode_clause image words head_arity at))
      pub ends : end ≡ at + length (encode_clause (decode_clause image words head_arity at))
      pub counted : after ≡ 0
      pub good : WellFormedClause program head_arity (decode_clause image words head_arity at)
      pub enough : fewest ≤ length (decode_clause image words head_arity at).goals

    -- the parts that the walk passed, put together
    clause-joined : {place start between final seen end after fewest at : ℕ} → ClauseFound words fewest at place start
        → Read words (map encode_arg (decode_args head_arity words (at + 1))) (decode_args head_arity words (at + 1)) (variables (get_or words at 0)) (at + 1) 0 (at + 1 + head_arity) between
        → Read words (flat_map encode_goal (decode_goals (goal_count (get_or words at 0)) image words (at + 1 + head_arity)))
        (flat_map goal_args (decode_goals (goal_count (get_or words at 0)) image words (at + 1 + head_arity))) (variables (get_or words at 0)) (at + 1 + head_arity) between final seen
        → Each (WellFormedGoal program) (decode_goals (goal_count (get_or words at 0)) image words (at + 1 + head_arity)) → EndFound (get_or words at 0) at final seen end after
        → Word (get_or words at 0) → ClauseStands fewest at end after
    unfolding decode_clause encode_clause encode_body clause_args
    clause-joined {final = final} {seen = seen} {fewest = fewest} {at = at} w heads rest calls l small =
        let word = get_or words at 0 in
        let args = decode_args head_arity words (at + 1) in
        let all = decode_goals (goal_count word) image words (at + 1 + head_arity) in
        let body : Read words (map encode_arg args ++ flat_map encode_goal all) (args ++ flat_map goal_args all) (variables word) (at + 1) 0 final seen =
        read-append (map encode_arg args) (flat_map encode_goal all) args (flat_map goal_args all) heads heads.ends rest in
        let count : length all ≡ goal_count word = length-decode_goals (goal_count word) image words (at + 1 + head_arity) in
        let size : suc (length (map encode_arg args ++ flat_map encode_goal all)) ≡ clause_length word = omega (arith, body.ends, l.is_size) in
        record {
          stands = (w.there, rw (count, size) (clause-word word small w.is_op), body.stands);
          ends = omega (arith, body.ends, l.ends);
          counted = l.counted;
          good = record {
            heads = length-decode_args head_arity words (at + 1);
            variables = w.few_vars;
            goal_count = rw count w.few_goals;
            calls = calls;
            numbered = body.numbered;
            declared = omega (arith, body.counted, body.kept, l.used);
          };
          enough = rw count w.enough;
        }

    pub clause-sound : Words words → (fewest at : ℕ) {end after : ℕ} → clause image words fewest head_arity at ≡ Ok (end, after) → ClauseStands fewest at end after
    unfolding clause
    clause-sound small fewest at e =
        let word = get_or words at 0 in
        let last = onward-passed (clause_end word at) (onward (goals (goal_count word) image words (variables word)) (onward (arguments head_arity words (variables word)) (clause_word words fewest at))) e in
        let middle = onward-passed (goals (goal_count word) image words (variables word)) (onward (arguments head_arity words (variables word)) (clause_word words fewest at)) last.before in
        let first = onward-passed (arguments head_arity words (variables word)) (clause_word words fewest at) middle.before in
        let w = clause_word-sound words fewest at first.before in
        let heads = arguments_sound head_arity words small (variables word) (at + 1) 0 (omega arith) (rw (w.ends, w.counted) at first.behind) in
        let ends : middle.place ≡ at + 1 + head_arity = omega (arith, heads.ends, length-map (decode_args head_arity words (at + 1)) encode_arg, length-decode_args head_arity words (at + 1)) in
        let rest = goals-sound known words (goal_count word) small (variables word) (at + 1 + head_arity) middle.seen heads.kept (rw ends at middle.behind) in
        let l = clause_end-sound word at last.place last.seen last.behind in
        clause-joined w (rw ends at heads) rest.0 rest.1 l (small at)

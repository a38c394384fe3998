-- In sound memory every used slot's clause is one of a legal image, or the query for the root; so a first goal stands in its frame's clause and calls a predicate
-- that is there. Document 01, "Refused calls", condition 21, "a clause position among the tried clauses of the parent's first goal". Assumes nothing.
use Rattle.std.specs.Prelude.{◌≡◌, refl, Bool, true, false, ℕ, zero, suc, ◌+◌, ◌≤◌, ◌<◌, eqb, length, get_or}
use Rattle.std.proofs.Common.{sym, ⊎_elim, arith, Ok}
use Rattle.std.proofs.Math.Path.{ap, subst}
use Rattle.std.proofs.Math.Bool.{cond}
use mathlib.Core.List.{List}
use borrow.Author.Tests.{eqb-true, eqb-false, ne_eqb}
use Rattle.model.specs.Fields.{predicate_count, arity, clause_count, first_clause}
use Rattle.model.specs.Image.{predicate_word, check_query}
use Rattle.model.specs.Encoding.{Words}
use Rattle.model.specs.Decoding.{clause_next, clause_from, clause_at, decode_clause, decode_predicate, decode, decode_query}
use Rattle.model.specs.Memory.{Memory, used, parent, depth, clause_position, has_goal, frame, goal_index, tried}
use Rattle.model.specs.Steps.{predicate_of}
use Rattle.model.specs.Damage.{called_word, among_clauses, linked, sound}
use Rattle.memory.proofs.FieldBounds.{arity-lt, parent-lt, depth-lt}
use Rattle.meaning.proofs.Decoded.{decode-at}
use Rattle.meaning.specs.ClausePlaces.{ClausePlace}
use Rattle.meaning.proofs.Meaning.{legal-query-image, legal-places, legal-clauses, legal-query-places}
use Rattle.paths.proofs.Held.{four-held}
use Rattle.paths.proofs.Slots.{links-held, linked-parent, root-clause}
use Rattle.paths.specs.Ancestors.{OnPath}
use Rattle.undoing.proofs.Frames.{path-either, frame-on-path}
use Rattle.undoing.proofs.GoalPlaces.{goal-found}
use Rattle.undoing.proofs.FirstGoals.{indexed}
use Rattle.undoing.specs.HeldClauses.{Holds, Calls}

-- a position among so many clauses is that of one of them
among_one : (image : List ℕ) (left at position : ℕ) → among_clauses left image at position ≡ true → (k : ℕ) × (k < left) × (clause_from image at k ≡ position)
unfolding among_clauses clause_from
among_one image zero at position e = let z : ◌≡◌ {A = ℕ} 0 1 = cc in absurd (omega arith)
among_one image (suc left) at position e = go (eqb at position) refl e (among_one image left (clause_next image at) position)
  where
    go : (b : Bool) → eqb at position ≡ b → elim b [ true ↦ true | false ↦ among_clauses left image (clause_next image at) position ] ≡ true
        → (among_clauses left image (clause_next image at) position ≡ true → (k : ℕ) × (k < left) × (clause_from image (clause_next image at) k ≡ position))
        → (k : ℕ) × (k < suc left) × (clause_from image at k ≡ position)
    go true q e rest = (0, omega arith, eqb-true at position q)
    go false q e rest = let r = rest e in (suc r.0, omega (arith, r.1), r.2)

module _ (image query : List ℕ) (image_words : Words image) (query_words : Words query) (legal : check_query image query ≡ Ok tt) where
  -- a clause of the image stands behind the header
  clause-behind : (number k : ℕ) → number < predicate_count (get_or image 0 0) → k < clause_count (predicate_word image number) → 0 < clause_at image number k
  clause-behind number k h l =
      let p = legal-places image image_words (legal-query-image image query legal) number (decode_predicate image number) (decode-at image number h) in
      go k (omega (arith, l, p.fields.is_count)) p.behind p.rising
    where
      go : (k : ℕ) → k ≤ length (decode_predicate image number).clauses → 1 + length (decode image) ≤ clause_at image number 0
          → ((i j : ℕ) → i < j → j ≤ length (decode_predicate image number).clauses → clause_at image number i < clause_at image number j) → 0 < clause_at image number k
      go zero l first rising = omega (arith, first)
      go (suc k) l first rising = omega (arith, first, rising 0 (suc k) (omega arith) l)

  module _ (m : Memory) (held : sound image query m ≡ true) where
    -- a slot's first goal, in a frame whose clause is there
    calls : (slot : ℕ) → slot < 64 → used m.nodes slot ≡ 1 → has_goal m.nodes slot ≡ 1 → (h : Holds image query m.nodes (frame m.nodes slot))
        → Calls image query m.nodes slot h.clause.variables
    calls slot fits taken has h =
        goal-found h.place h.narrow (goal_index m.nodes slot) (indexed image query query_words legal m held slot fits taken has).index

    -- the root's clause is the query
    root-holds : Holds image query m.nodes 0
    root-holds =
        let q = legal-query-places image query query_words legal in
        record {
          head_arity = 0;
          narrow = omega arith;
          clause = decode_query image query;
          place =
              subst (λ (at : ℕ). ClausePlace image (cond (eqb at 0) query image) (decode image) 0 at (decode_query image query)) (sym (root-clause image query m held)) q;
        }

    -- another slot's clause is one of the tried clauses of the parent's first goal
    child-holds : (slot : ℕ) → slot < 64 → used m.nodes slot ≡ 1 → (slot ≡ 0 → ⊥) → Holds image query m.nodes (frame m.nodes (parent m.nodes slot))
        → Holds image query m.nodes slot
    unfolding linked clause_at
    child-holds slot h u other above =
        let nodes = m.nodes in
        let up = parent m.nodes slot in
        let rule = four-held (eqb (used nodes up) 1) (eqb (depth nodes slot) (depth nodes up + 1)) (eqb (has_goal nodes up) 1)
        (among_clauses (tried nodes up) image (first_clause (called_word image query nodes up)) (clause_position nodes slot)) (linked-parent image query m held slot h u other) in
        let up_taken = eqb-true (used nodes up) 1 rule.0 in
        let has = eqb-true (has_goal nodes up) 1 rule.2 in
        let number = predicate_of image query nodes up in
        let there = (calls up (parent-lt nodes slot) up_taken has above).1.exists in
        let one = among_one image (tried nodes up) (first_clause (called_word image query nodes up)) (clause_position nodes slot) rule.3 in
        let within : one.0 < clause_count (predicate_word image number) = omega (arith, one.1, (indexed image query query_words legal m held up (parent-lt nodes slot) up_taken has).most) in
        let clause = decode_clause image image (arity (predicate_word image number)) (clause_at image number one.0) in
        let stands = legal-clauses image image_words (legal-query-image image query legal) number one.0 there within in
        let behind = clause-behind number one.0 there within in
        let chosen : image ≡ cond (eqb (clause_at image number one.0) 0) query image =
        ap (λ (t : Bool). cond t query image) (sym (ne_eqb (clause_at image number one.0) 0 (λ z. omega (arith, z, behind)))) in
        let whole = subst (λ (words : List ℕ). ClausePlace image words (decode image) (arity (predicate_word image number)) (clause_at image number one.0) clause) chosen stands in
        record {
          head_arity = arity (predicate_word image number);
          narrow = omega (arith, arity-lt (predicate_word image number));
          clause = clause;
          place = subst (λ (at : ℕ). ClausePlace image (cond (eqb at 0) query image) (decode image) (arity (predicate_word image number)) at clause) one.2 whole;
        }

    -- along the path, from the root on
    path-holds : (most slot : ℕ) → depth m.nodes slot < most → slot < 64 → used m.nodes slot ≡ 1 → (third : ℕ) → OnPath m.nodes slot third → Holds image query m.nodes third
    path-holds zero slot l h u third on = absurd (omega arith)
    path-holds (suc most) slot l h u third on =
        let nodes = m.nodes in
        let links = links-held image query m held in
        let up : (slot ≡ 0 → ⊥) → (other : ℕ) → OnPath nodes (parent nodes slot) other → Holds image query nodes other = λ below.
        path-holds most (parent nodes slot) (omega (arith, (links.rises slot h u below).deeper)) (parent-lt nodes slot) (links.rises slot h u below).taken in
        ⊎_elim
        (λ (e : slot ≡ third). subst (Holds image query nodes) e (here (eqb slot 0) refl up))
        (λ (w : (slot ≡ 0 → ⊥) × OnPath nodes (parent nodes slot) third). up w.0 third w.1)
        (path-either nodes links (depth nodes slot) slot third refl h u on)
      where
        here : (root : Bool) → eqb slot 0 ≡ root → ((slot ≡ 0 → ⊥) → (other : ℕ) → OnPath m.nodes (parent m.nodes slot) other → Holds image query m.nodes other)
            → Holds image query m.nodes slot
        here true q up = subst (Holds image query m.nodes) (sym (eqb-true slot 0 q)) root-holds
        here false q up =
            let nodes = m.nodes in
            let below = eqb-false slot 0 q in
            child-holds slot h u below
            (up below (frame nodes (parent nodes slot))
            (frame-on-path image query m held (parent nodes slot) (parent-lt nodes slot) ((links-held image query m held).rises slot h u below).taken))

    -- the first goal of a used slot, with its frame's clause
    pub first-goal : (slot : ℕ) → slot < 64 → used m.nodes slot ≡ 1 → has_goal m.nodes slot ≡ 1
        → (h : Holds image query m.nodes (frame m.nodes slot)) × Calls image query m.nodes slot h.clause.variables
    first-goal slot fits taken has =
        let h = path-holds 64 slot (depth-lt m.nodes slot) fits taken (frame m.nodes slot) (frame-on-path image query m held slot fits taken) in
        (h, calls slot fits taken has h)

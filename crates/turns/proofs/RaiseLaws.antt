-- What a raised tried count leaves as it was: every other field, and all that is found by them. Document 01, rule 7, "Failure: Tried; only that count has changed". Assumes nothing.
use Rattle.std.proofs.Common.{◌≡◌, refl, ap, ap₂, ◌∙◌, Bool, true, false, cond, ◌&&◌, List, [], ◌∷◌, ℕ, zero, suc, ◌+◌, ◌*◌, ◌<◌, arith, mod-lt, mod-eq_of_lt, eqb, length, get_or, get_or-set_same, get_or-set_other, pow_pos}
use Rattle.model.specs.declared.Kind.TheVariants.{Node0, Node1, Node2}
use Rattle.model.specs.Fields.{widths_of, field, below, total, goal_predicate}
use Rattle.model.specs.Memory.{node_word, used, parent, base, own_variables, clause_position, has_goal, frame, goal_index, tried, word_of, cut_to}
use Rattle.model.specs.Goals.{clause_words, goal_place}
use Rattle.model.specs.Steps.{goal_of, predicate_of, child_from, has_child, free_from, lowest_free, raised}
use Rattle.words.proofs.FieldLaws.{field-join, field_lt}

-- a word that is not 0 stands inside its list
get_or-inside : (words : List ℕ) (at : ℕ) → 0 < get_or words at 0 → at < length words
get_or-inside [] at h = absurd (omega arith)
get_or-inside (word ∷ words) zero h = omega arith
get_or-inside (word ∷ words) (suc at) h = omega (arith, get_or-inside words at h)

-- field 0 of node word 2 is 0 where the word is
has_goal-inside : (nodes : List ℕ) (node : ℕ) → has_goal nodes node ≡ 1 → 4 * node + 2 < length nodes
unfolding field widths_of below total
has_goal-inside nodes node goal = get_or-inside nodes (4 * node + 2) (go (get_or nodes (4 * node + 2) 0) goal)
  where
    go : (word : ℕ) → field (widths_of Node2) word 0 ≡ 1 → 0 < word
    go zero e = absurd (omega arith)
    go (suc word) e = omega arith

module _ (nodes : List ℕ) (node : ℕ) where
  raised-other : (slot part : ℕ) → (4 * slot + part ≡ 4 * node + 2 → ⊥) → node_word (raised nodes node) slot part ≡ node_word nodes slot part
  unfolding raised
  raised-other slot part other =
      get_or-set_other nodes (4 * node + 2) (4 * slot + part) (word_of Node2 (has_goal nodes node ∷ frame nodes node ∷ goal_index nodes node ∷ (tried nodes node + 1) ∷ 0 ∷ [])) 0 other

  raised-used : (slot : ℕ) → used (raised nodes node) slot ≡ used nodes slot
  raised-used slot = ap (λ (word : ℕ). field (widths_of Node0) word 0) (raised-other slot 0 (λ e. omega arith))

  raised-parent : (slot : ℕ) → parent (raised nodes node) slot ≡ parent nodes slot
  raised-parent slot = ap (λ (word : ℕ). field (widths_of Node0) word 1) (raised-other slot 0 (λ e. omega arith))

  pub raised-own_variables : (slot : ℕ) → own_variables (raised nodes node) slot ≡ own_variables nodes slot
  raised-own_variables slot = ap (λ (word : ℕ). field (widths_of Node0) word 4) (raised-other slot 0 (λ e. omega arith))

  pub raised-base : (slot : ℕ) → base (raised nodes node) slot ≡ base nodes slot
  raised-base slot = ap (λ (word : ℕ). field (widths_of Node1) word 0) (raised-other slot 1 (λ e. omega arith))

  raised-clause_position : (slot : ℕ) → clause_position (raised nodes node) slot ≡ clause_position nodes slot
  raised-clause_position slot = ap (λ (word : ℕ). field (widths_of Node1) word 2) (raised-other slot 1 (λ e. omega arith))

  pub raised-clause_words : (image query : List ℕ) (slot : ℕ) → clause_words image query (raised nodes node) slot ≡ clause_words image query nodes slot
  raised-clause_words image query slot = ap (λ (position : ℕ). cond (eqb position 0) query image) (raised-clause_position slot)

  raised-child_from : (left slot : ℕ) → child_from left (raised nodes node) node slot ≡ child_from left nodes node slot
  unfolding child_from
  raised-child_from zero slot = refl
  raised-child_from (suc left) slot =
      ap₂ (λ (u p : ℕ). elim (eqb u 1 && eqb p node) [ true ↦ true | false ↦ child_from left (raised nodes node) node (slot + 1) ]) (raised-used slot) (raised-parent slot)
      ∙ ap (λ (rest : Bool). elim (eqb (used nodes slot) 1 && eqb (parent nodes slot) node) [ true ↦ true | false ↦ rest ]) (raised-child_from left (slot + 1))

  pub raised-has_child : has_child (raised nodes node) node ≡ has_child nodes node
  raised-has_child = raised-child_from 63 1

  raised-free_from : (left slot : ℕ) → free_from left (raised nodes node) slot ≡ free_from left nodes slot
  unfolding free_from
  raised-free_from zero slot = refl
  raised-free_from (suc left) slot =
      ap (λ (u : ℕ). elim (eqb u 1) [ true ↦ free_from left (raised nodes node) (slot + 1) | false ↦ slot ]) (raised-used slot)
      ∙ ap (λ (rest : ℕ). elim (eqb (used nodes slot) 1) [ true ↦ rest | false ↦ slot ]) (raised-free_from left (slot + 1))

  pub raised-lowest_free : lowest_free (raised nodes node) ≡ lowest_free nodes
  raised-lowest_free = raised-free_from 64 0

  -- the node's own word 2, where it has a goal
  module _ (goal : has_goal nodes node ≡ 1) where
    abbrev values : List ℕ
    values = has_goal nodes node ∷ frame nodes node ∷ goal_index nodes node ∷ (tried nodes node + 1) ∷ 0 ∷ []

    raised-word : node_word (raised nodes node) node 2 ≡ word_of Node2 values
    unfolding raised
    raised-word = get_or-set_same nodes (4 * node + 2) (word_of Node2 values) 0 (has_goal-inside nodes node goal)

    raised-field : (i : ℕ) → field (widths_of Node2) (node_word (raised nodes node) node 2) i ≡ get_or (cut_to (widths_of Node2) values) i 0
    unfolding word_of widths_of cut_to
    raised-field i =
        ap (λ (word : ℕ). field (widths_of Node2) word i) raised-word
        ∙ field-join (widths_of Node2) (cut_to (widths_of Node2) values)
        (mod-lt (has_goal nodes node) (pow_pos 1), (mod-lt (frame nodes node) (pow_pos 6), (mod-lt (goal_index nodes node) (pow_pos 4), (mod-lt (tried nodes node + 1) (pow_pos 10), (mod-lt 0 (pow_pos 11), tt))))) i

    pub raised-has_goal : has_goal (raised nodes node) node ≡ 1
    unfolding widths_of cut_to
    raised-has_goal = raised-field 0 ∙ mod-eq_of_lt (field_lt (widths_of Node2) (node_word nodes node 2) 0) ∙ goal

    pub raised-frame : frame (raised nodes node) node ≡ frame nodes node
    unfolding widths_of cut_to
    raised-frame = raised-field 1 ∙ mod-eq_of_lt (field_lt (widths_of Node2) (node_word nodes node 2) 1)

    raised-goal_index : goal_index (raised nodes node) node ≡ goal_index nodes node
    unfolding widths_of cut_to
    raised-goal_index = raised-field 2 ∙ mod-eq_of_lt (field_lt (widths_of Node2) (node_word nodes node 2) 2)

    pub raised-tried : tried nodes node + 1 < 1024 → tried (raised nodes node) node ≡ tried nodes node + 1
    unfolding widths_of cut_to
    raised-tried h = raised-field 3 ∙ mod-eq_of_lt h

    pub raised-goal_of : (image query : List ℕ) → goal_of image query (raised nodes node) node ≡ goal_of image query nodes node
    raised-goal_of image query =
        ap₂ (λ (slot index : ℕ). goal_place image (clause_words image query (raised nodes node) slot) (clause_position (raised nodes node) slot) index) raised-frame raised-goal_index
        ∙ ap₂ (λ (words : List ℕ) (position : ℕ). goal_place image words position (goal_index nodes node)) (raised-clause_words image query (frame nodes node)) (raised-clause_position (frame nodes node))

    pub raised-predicate_of : (image query : List ℕ) → predicate_of image query (raised nodes node) node ≡ predicate_of image query nodes node
    raised-predicate_of image query =
        ap₂ (λ (words : List ℕ) (place : ℕ). goal_predicate (get_or words place 0))
        (ap (clause_words image query (raised nodes node)) raised-frame ∙ raised-clause_words image query (frame nodes node)) (raised-goal_of image query)

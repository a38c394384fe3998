-- Document 01, rule 7: "Failure: Tried; only that count has changed." In sound memory a step that says Tried leaves the cells, the trail, the worker's array and
-- the workers as they were, and of the node words it changes the node's count alone; for every head, variables included.
-- What the check of image and query says of the clause and the goal is a hypothesis here, the record `Judged`, which `Legal` gives. Assumes nothing.
use Rattle.std.specs.Prelude.{◌≡◌, ◌⊎◌, Bool, true, false, ℕ, ◌+◌, ◌*◌, ◌/◌, ◌%◌, ◌≤◌, ◌<◌, ltb, length, get_or, drop}
use Rattle.std.proofs.Math.Path.{refl, ap, ap₂}
use Rattle.std.proofs.Common.{subst, ◌∙◌, inl, inr, ⊎_elim, arith, ltb-true, ltb-false}
use mathlib.Core.List.{List}
use Rattle.model.specs.declared.Outcome.TheVariants.{Tried}
use Rattle.model.specs.Fields.{arity, variables, variable_number}
use Rattle.model.specs.Image.{predicate_word}
use Rattle.model.specs.Memory.{Memory, used, depth, entries, own_variables, base, frame, first_of, cell_of, number_at, array_of}
use Rattle.model.specs.Goals.{clause_words}
use Rattle.model.specs.Steps.{view, view_of, goal_of, predicate_of, lowest_free, undone, raised, failed, head_store, step}
use Rattle.model.specs.Damage.{on_path, path_array, same_words, sound}
use Rattle.memory.proofs.FieldBounds.{arity-lt, base-lt, frame-lt, own_variables-lt}
use Rattle.paths.proofs.Slots.{worker-stands, entry-held, links-held, free-blank}
use Rattle.paths.specs.Ancestors.{Ancestor}
use Rattle.paths.specs.Values.{Reach}
use Rattle.paths.proofs.Arrays.{array-says}
use Rattle.paths.proofs.Paths.{path-closed}
use Rattle.undoing.specs.Failure.{PathCell, Ready}
use Rattle.undoing.proofs.Failure.{failure-undone}
use Rattle.undoing.proofs.Frames.{frame-on-path}
use Rattle.undoing.specs.Failing.{clause_taken}
use Rattle.undoing.proofs.Failing.{head_tried, lowest-free, tried-failing}
use Rattle.undoing.specs.Tried.{Judged}

module _ (image query : List ℕ) (m : Memory) (held : sound image query m ≡ true) where
  -- a number that is trailed on the path to a node is below the base of the node's children
  trailed-below : (node slot : ℕ) → Ancestor m.nodes node slot → (entry : ℕ) → entry < entries m.nodes slot
      → get_or m.trail (number_at slot entry) 0 < base m.nodes node + own_variables m.nodes node
  trailed-below node slot a entry h = omega (arith, (entry-held image query m held slot a.fits a.taken entry h).0, a.ends)

  module _ (worker : ℕ) (few : worker < 4) (cells_long : length m.cells ≡ 2048) (trail_long : length m.trail ≡ 2048)
      (judged : Judged image query m.nodes (get_or m.workers worker 0)) where
    abbrev node : ℕ
    node = get_or m.workers worker 0

    abbrev child : ℕ
    child = lowest_free m.nodes

    abbrev child_base : ℕ
    child_base = base m.nodes node + own_variables m.nodes node

    abbrev own : ℕ
    own = variables (get_or image (clause_taken image query m.nodes node) 0)

    stands : (node < 64) × (used m.nodes node ≡ 1) × (same_words 2048 (array_of m.arrays worker) (path_array m.nodes m.trail node) 0 ≡ true)
    stands = worker-stands image query m held worker few

    -- the array says nothing of the child's numbers
    array-unbound : (k : ℕ) → get_or (array_of m.arrays worker) (child_base + k) 0 ≡ 0
    array-unbound k =
        ⊎_elim (λ (h : child_base + k < child_base). absurd (omega arith)) (λ (z : get_or (array_of m.arrays worker) (child_base + k) 0 ≡ 0). z)
        (array-says (λ number word. (number < child_base) ⊎ (word ≡ 0)) m.nodes m.trail (links-held image query m held) node stands.0 stands.1
        (λ slot a entry h. inl (trailed-below node slot a entry h)) (drop (2048 * worker) m.arrays) stands.2 (λ number. inr refl) (child_base + k))

    -- a variable of the first goal's frame is on the path
    goal-reached : (variable : ℕ) → variable < own_variables m.nodes (frame m.nodes node) → Reach m.nodes node (cell_of (frame m.nodes node) variable)
    goal-reached variable h =
        let slot = frame m.nodes node in
        let at : slot ≡ cell_of slot variable / 32 = omega (arith, judged.few_held, h) in
        let rest : variable ≡ cell_of slot variable % 32 = omega (arith, judged.few_held, h) in (
          omega (arith, judged.few_held, h, frame-lt m.nodes node),
          subst (λ (v : ℕ). v < own_variables m.nodes (cell_of slot variable / 32)) rest (subst (λ (s : ℕ). variable < own_variables m.nodes s) at h),
          subst (λ (s : ℕ). on_path (depth m.nodes node) m.nodes node s ≡ true) at (frame-on-path image query m held node stands.0 stands.1),
        )

    module _ (room : lowest_free m.nodes < 64) where
      -- the cells of the path are outside the child's slot, which is free
      path-aside : (address : ℕ) → (address / 32 ≡ child → ⊥) → (address < first_of child) ⊎ (first_of child + own ≤ address)
      path-aside address other = go (ltb address (first_of child)) refl (ltb address (first_of child + own)) refl
        where
          go : (before : Bool) → ltb address (first_of child) ≡ before → (within : Bool) → ltb address (first_of child + own) ≡ within
              → (address < first_of child) ⊎ (first_of child + own ≤ address)
          go true p within q = inl (ltb-true address (first_of child) p)
          go false p false q = inr (ltb-false address (first_of child + own) q)
          go false p true q =
              absurd (other (omega (arith, ltb-false address (first_of child) p, ltb-true address (first_of child + own) q, judged.few)))

      path-cell : (address : ℕ) → Reach m.nodes node address → PathCell (Reach m.nodes node) child child_base own (array_of m.arrays worker) m.cells address
      path-cell address reach =
          let c = path-closed image query m held worker few address reach in
          record {
            fits = omega (arith, reach.0);
            aside = path-aside address (c.not_free child (lowest-free m.nodes room));
            linked = c.refers;
            below = c.below;
            bound = c.bound;
          }

      head-ready : Ready (Reach m.nodes node) image (clause_words image query m.nodes (frame m.nodes node)) child child_base (frame m.nodes node) own
          (arity (predicate_word image (predicate_of image query m.nodes node))) (clause_taken image query m.nodes node + 1) (goal_of image query m.nodes node + 1)
          (array_of m.arrays worker) m.cells m.trail
      head-ready =
          let free = free-blank image query m held child room (lowest-free m.nodes room) in
          let narrow = arity-lt (predicate_word image (predicate_of image query m.nodes node)) in
          record {
            closed = path-cell;
            goals = λ k h variable.
                goal-reached (variable_number (get_or (clause_words image query m.nodes (frame m.nodes node)) (goal_of image query m.nodes node + 1 + k) 0)) (judged.goals k h variable);
            heads = judged.heads;
            unbound = λ k h. array-unbound k;
            bare = λ k h. (free k (omega (arith, h, judged.few))).0;
            blank = λ k h. (free k (omega (arith, h, narrow))).1;
            cells_reach = omega (arith, room, judged.few, cells_long);
            trail_reaches = omega (arith, room, narrow, trail_long);
            numbers_fit = omega (arith, judged.few, base-lt m.nodes node, own_variables-lt m.nodes node);
            cells_fit = omega (arith, room, judged.few);
          }

    -- "Failure: Tried; only that count has changed"
    pub tried-only-counts : (step image query (view_of m worker) worker).outcome ≡ Tried
        → (step image query (view_of m worker) worker).after
        ≡ view (raised m.nodes (get_or m.workers worker 0)) m.cells m.trail (array_of m.arrays worker) m.workers
    unfolding head_store failed
    tried-only-counts says =
        let f = tried-failing image query (view_of m worker) worker says in
        let s = head_tried image query (view_of m worker) worker in
        let back = failure-undone (Reach m.nodes node) image (clause_words image query m.nodes (frame m.nodes node)) child child_base (frame m.nodes node) own
        (arity (predicate_word image (predicate_of image query m.nodes node))) (clause_taken image query m.nodes node + 1) (goal_of image query m.nodes node + 1)
        (array_of m.arrays worker) m.cells m.trail (head-ready f.room) s f.count refl f.fails in
        f.leaves
        ∙ ap₂ (λ (cells trail : List ℕ). view (raised m.nodes node) cells trail (undone f.count s.trail (first_of child) s.array) m.workers) back.1 back.2
        ∙ ap (λ (array : List ℕ). view (raised m.nodes node) m.cells m.trail array m.workers) back.0

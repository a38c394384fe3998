-- Rule 7 from the parts that its functions give: the head's unifying, a head that failed, a clause taken. Assumes nothing.
use Rattle.std.proofs.Common.{◌≡◌, sym, ap, ap₂, ◌∙◌, List, Ok, Err, ℕ, ◌+◌, ◌*◌, ◌<◌, get_or, arith}
use Rattle.model.specs.declared.Outcome.TheVariants.{Tried}
use Rattle.model.specs.Fields.{arity, variables, goal_count}
use Rattle.model.specs.Image.{predicate_word}
use Rattle.model.specs.Decoding.{clause_at}
use Rattle.model.specs.Memory.{base, own_variables, frame, goal_index, tried, first_of, cleared}
use Rattle.model.specs.Goals.{clause_words, child_goal}
use Rattle.model.specs.Terms.{Store, store, unify_head, Unified, clash}
use Rattle.model.specs.Steps.{View, view, Stepped, stepped, goal_of, predicate_of, undone, laid, raised, failed, succeeded, head_store, with_store, taken, take_clause}
use Rattle.terms.proofs.HeadLaws.{counted, unify_head-count}
use Rattle.memory.proofs.FieldBounds.{arity-lt}

pub head-from : (image query nodes array cells trail : List ℕ) (node child predicate position : ℕ) (slot place start own count own! : ℕ) (words blank : List ℕ)
    → slot ≡ frame nodes node → words ≡ clause_words image query nodes slot → place ≡ goal_of image query nodes node → start ≡ base nodes node → own ≡ own_variables nodes node
    → own! ≡ variables (get_or image position 0) → count ≡ arity (predicate_word image predicate) → blank ≡ laid own! (first_of child) (start + own) cells
    → unify_head count image words child (start + own) slot (position + 1) (place + 1) array blank trail 0 ≡ head_store image query nodes array cells trail node child predicate position
unfolding head_store
head-from image query nodes array cells trail node child predicate position slot place start own count own! words blank e₁ e₂ e₃ e₄ e₅ e₆ e₇ e₈ = cc

-- the entries of a head that was tried: at most one an argument, and an arity has four bits
pub head_store-count : (image query nodes array cells trail : List ℕ) (node child predicate position : ℕ) (array_next cells_next trail_next : List ℕ) (found : Unified)
    → store array_next cells_next trail_next found ≡ head_store image query nodes array cells trail node child predicate position → counted found < 16
unfolding head_store
head_store-count image query nodes array cells trail node child predicate position array_next cells_next trail_next found e =
    let h = ap (λ (s : Store). counted s.unified) e in
    let n = unify_head-count (arity (predicate_word image predicate)) image (clause_words image query nodes (frame nodes node)) child (base nodes node + own_variables nodes node)
    (frame nodes node) (position + 1) (goal_of image query nodes node + 1) array
    (laid (variables (get_or image position 0)) (first_of child) (base nodes node + own_variables nodes node) cells) trail 0 in
    omega (arith, h, n, arity-lt (predicate_word image predicate))

-- a failed head: the count has risen, what was laid is cleared, what was bound is taken out and its entries cleared
pub failure-from : (image nodes cells trail array workers : List ℕ) (node child position count own : ℕ) (risen blank bare undo : List ℕ)
    → own ≡ variables (get_or image position 0) → risen ≡ raised nodes node → blank ≡ cleared own (first_of child) cells → bare ≡ cleared (2 * count) (first_of child) trail
    → undo ≡ undone count trail (first_of child) array → view risen blank bare undo workers ≡ failed image (view nodes cells trail array workers) node child position count
unfolding failed
failure-from image nodes cells trail array workers node child position count own risen blank bare undo owns rises blanks bares undoes =
    ap₂ (λ (n c : List ℕ). view n c bare undo workers) rises (blanks ∙ ap (λ (k : ℕ). cleared k (first_of child) cells) owns)
    ∙ ap₂ (λ (t a : List ℕ). view (raised nodes node) (cleared (variables (get_or image position 0)) (first_of child) cells) t a workers) bares undoes

module _ (image query nodes cells trail array workers : List ℕ) (worker node child predicate position : ℕ)
    (calls : predicate ≡ predicate_of image query nodes node) (stands : position ≡ clause_at image predicate (tried nodes node))
    (nodes_next cells_next trail_next array_next workers_next : List ℕ) (found : Unified)
    (headed : store array_next cells_next trail_next found ≡ head_store image query nodes array cells trail node child predicate position)
    (stay : nodes_next ≡ nodes) (wait : workers_next ≡ workers) where
  takes : taken found image query (view nodes_next cells_next trail_next array_next workers_next) worker node child position ≡ take_clause image query (view nodes cells trail array workers) worker node child
  unfolding take_clause
  takes =
      ap₂ (λ (n w : List ℕ). taken found image query (view n cells_next trail_next array_next w) worker node child position) stay wait
      ∙ ap (λ (s : Store). taken s.unified image query (with_store (view nodes cells trail array workers) s) worker node child position) headed
      ∙ ap₂ (λ (p at : ℕ).
      taken (head_store image query nodes array cells trail node child p at).unified image query (with_store (view nodes cells trail array workers) (head_store image query nodes array cells trail node child p at)) worker node child at)
      calls (stands ∙ ap (λ (p : ℕ). clause_at image p (tried nodes node)) calls)

  pub take-failed : (count : ℕ) (after : View) → found ≡ Err (clash count)
      → after ≡ failed image (view nodes_next cells_next trail_next array_next workers_next) node child position count
      → stepped Tried after ≡ take_clause image query (view nodes cells trail array workers) worker node child
  unfolding taken
  take-failed count after is e =
      ap (stepped Tried) e
      ∙ ap (λ (u : Unified). taken u image query (view nodes_next cells_next trail_next array_next workers_next) worker node child position) (sym is) ∙ takes

  pub take-succeeded : (count : ℕ) (after : Stepped) → found ≡ Ok count
      → after
      ≡ succeeded image (view nodes_next cells_next trail_next array_next workers_next) worker node child position count
      (child_goal image query nodes_next child (goal_count (get_or image position 0)) (frame nodes_next node) (goal_index nodes_next node))
      → after ≡ take_clause image query (view nodes cells trail array workers) worker node child
  unfolding taken
  take-succeeded count after is e =
      e ∙ ap (λ (u : Unified). taken u image query (view nodes_next cells_next trail_next array_next workers_next) worker node child position) (sym is) ∙ takes

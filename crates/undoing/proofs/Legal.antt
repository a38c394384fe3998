-- Document 01, rule 7, "Failure: Tried; only that count has changed", for a legal image and query: what the check says of the clause that is taken at a live node
-- and of the clause that holds the node's first goal, so that nothing is left to suppose but legal words, sound memory and the lengths of the slices. Assumes nothing.
use Rattle.std.specs.Prelude.{◌≡◌, refl, Bool, true, false, cond, List, ℕ, ◌<◌, eqb, ltb, length, get_or}
use Rattle.std.proofs.Common.{◌∙◌, arith, eqb-true, ltb-true, Ok}
use Rattle.model.specs.declared.Outcome.TheVariants.{Tried}
use Rattle.model.specs.Fields.{clause_count}
use Rattle.model.specs.Image.{predicate_word, check_query}
use Rattle.model.specs.Encoding.{Words}
use Rattle.model.specs.Memory.{Memory, used, has_goal, frame, tried, array_of}
use Rattle.model.specs.Steps.{view, view_of, predicate_of, live, raised, step}
use Rattle.model.specs.Damage.{sound}
use Rattle.meaning.proofs.Meaning.{legal-query-image, legal-clauses}
use Rattle.paths.proofs.Slots.{worker-stands, links-held}
use Rattle.paths.proofs.Ancestors.{ancestor}
use Rattle.undoing.proofs.Frames.{frame-on-path}
use Rattle.undoing.proofs.Failing.{tried-failing}
use Rattle.undoing.specs.Tried.{Judged}
use Rattle.undoing.proofs.Tried.{tried-only-counts}
use Rattle.undoing.proofs.GoalPlaces.{goal-below, head-below}
use Rattle.undoing.proofs.FirstGoals.{own-variables}
use Rattle.undoing.proofs.HeldClauses.{first-goal}

-- a live node has a first goal with clauses untried
live-has : (has more : Bool) → cond has more false ≡ true → (has ≡ true) × (more ≡ true)
live-has true more e = (refl, e)
live-has false more e = let z : ◌≡◌ {A = ℕ} 0 1 = cc in absurd (omega arith)

module _ (image query : List ℕ) (image_words : Words image) (query_words : Words query) (legal : check_query image query ≡ Ok tt) (m : Memory) (held : sound image query m ≡ true) where
  -- at a live node in a used slot
  node-judged : (node : ℕ) → node < 64 → used m.nodes node ≡ 1 → live image query m.nodes node ≡ true → Judged image query m.nodes node
  unfolding live
  node-judged node fits taken lively =
      let nodes = m.nodes in
      let number = predicate_of image query nodes node in
      let holder = frame m.nodes node in
      let both = live-has (eqb (has_goal nodes node) 1) (ltb (tried nodes node) (clause_count (predicate_word image number))) lively in
      let first = first-goal image query image_words query_words legal m held node fits taken (eqb-true (has_goal nodes node) 1 both.0) in
      let clause = legal-clauses image image_words (legal-query-image image query legal) number (tried nodes node) first.1.1.exists
      (ltb-true (tried nodes node) (clause_count (predicate_word image number)) both.1) in
      let above = ancestor nodes (links-held image query m held) node holder fits taken (frame-on-path image query m held node fits taken) in
      let own = own-variables image query query_words legal m held holder above.fits above.taken ∙ first.0.place.fields.is_vars in
      record {
        heads = λ k h e. omega (arith, head-below clause k h e, clause.fields.is_vars);
        few = omega (arith, clause.good.variables, clause.fields.is_vars);
        goals = λ k h e. omega (arith, goal-below first.1.1 k h e, own);
        few_held = omega (arith, first.0.place.good.variables, own);
      }

  -- what the check says where a worker stands at a live node
  pub legal-judged : (worker : ℕ) → worker < 4 → live image query m.nodes (get_or m.workers worker 0) ≡ true → Judged image query m.nodes (get_or m.workers worker 0)
  legal-judged worker few lively = let s = worker-stands image query m held worker few in node-judged (get_or m.workers worker 0) s.0 s.1 lively

  -- "Failure: Tried; only that count has changed", for a legal image and query and sound memory
  pub tried-only-counts-legal : (worker : ℕ) → worker < 4 → length m.cells ≡ 2048 → length m.trail ≡ 2048 → (step image query (view_of m worker) worker).outcome ≡ Tried
      → (step image query (view_of m worker) worker).after
      ≡ view (raised m.nodes (get_or m.workers worker 0)) m.cells m.trail (array_of m.arrays worker) m.workers
  tried-only-counts-legal worker few cells_long trail_long says =
      tried-only-counts image query m held worker few cells_long trail_long (legal-judged worker few (tried-failing image query (view_of m worker) worker says).lively) says

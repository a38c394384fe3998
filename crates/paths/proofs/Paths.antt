-- In sound memory the variables on the path to a worker's node are closed under what their cells and the worker's array say: whatever is dereferenced from
-- one of them stays among them, at ever lower numbers. Document 01, "Refused calls", condition 21. Assumes nothing.
use Rattle.std.specs.Prelude.{◌≡◌, true, List, drop}
use Rattle.std.proofs.Common.{subst, arith}
use Prim.Native.Nat.{ℕ, ◌*◌, ◌/◌, ◌%◌, ◌<◌}
use Rattle.std.proofs.Math.ListN.{get_or}
use Rattle.model.specs.Memory.{Memory, used, entries, tag, value, cell_of, number_at, value_at, array_of}
use Rattle.model.specs.Damage.{cell_sound, path_array, same_words, sound}
use Rattle.paths.proofs.Slots.{worker-stands, entry-held, cell-held, links-held}
use Rattle.paths.specs.Ancestors.{Ancestor}
use Rattle.paths.proofs.Ancestors.{ancestor}
use Rattle.paths.specs.Values.{Reach, number_of, Leads}
use Rattle.paths.proofs.Values.{zero-tag, value-leads, cell-number, cell-leads}
use Rattle.paths.proofs.Arrays.{array-says}
use Rattle.paths.specs.Paths.{Closed}

module _ (image query : List ℕ) (m : Memory) (held : sound image query m ≡ true) where
  -- a trailed value of a slot on the path to a node
  trailed-leads : (node slot : ℕ) → Ancestor m.nodes node slot → (entry : ℕ) → entry < entries m.nodes slot
      → Leads m.nodes node (get_or m.trail (number_at slot entry) 0) (get_or m.trail (value_at slot entry) 0)
  trailed-leads node slot a entry h =
      value-leads m.nodes slot (get_or m.trail (number_at slot entry) 0) (get_or m.trail (value_at slot entry) 0) node a (entry-held image query m held slot a.fits a.taken entry h).1

  module _ (worker : ℕ) (few : worker < 4) where
    node : ℕ
    node = get_or m.workers worker 0

    stands : (node < 64) × (used m.nodes node ≡ 1) × (same_words 2048 (array_of m.arrays worker) (path_array m.nodes m.trail node) 0 ≡ true)
    unfolding node
    stands = worker-stands image query m held worker few

    -- every word of the worker's array
    array-leads : (number : ℕ) → Leads m.nodes node number (get_or (array_of m.arrays worker) number 0)
    array-leads =
        array-says (Leads m.nodes node) m.nodes m.trail (links-held image query m held) node stands.0 stands.1 (trailed-leads node)
        (drop (2048 * worker) m.arrays) stands.2 (λ number one. absurd (omega (arith, one, zero-tag)))

    pub path-closed : (address : ℕ) → Reach m.nodes (get_or m.workers worker 0) address → Closed m worker address
    unfolding node
    path-closed address reach =
        record {
          taken = a.taken;
          not_free = λ child free e. free (subst (λ (s : ℕ). used m.nodes s ≡ 1) e a.taken);
          own = number;
          below = λ vno. omega (arith, number vno, reach.1, a.ends);
          bound = λ vno one. (array-leads (value cell) one).0;
          refers = λ one. (leads one).0;
          bound_lower = λ vno one. omega (arith, number vno, (array-leads (value cell) one).1);
          refers_lower = λ one. (leads one).1;
        }
      where
        cell : ℕ
        cell = get_or m.cells address 0

        a : Ancestor m.nodes node (address / 32)
        a = ancestor m.nodes (links-held image query m held) node (address / 32) stands.0 stands.1 reach.2

        place : cell_of (address / 32) (address % 32) ≡ address
        place = omega arith

        sound-cell : cell_sound m.nodes m.cells (address / 32) (address % 32) ≡ true
        sound-cell = cell-held image query m held (address / 32) (address % 32) a.fits (omega arith) a.taken

        number : tag (get_or m.cells address 0) ≡ 0 → value (get_or m.cells address 0) ≡ number_of m.nodes address
        number =
            subst (λ (i : ℕ). tag (get_or m.cells i 0) ≡ 0 → value (get_or m.cells i 0) ≡ number_of m.nodes address) place
            (cell-number m.nodes m.cells (address / 32) (address % 32) reach.1 (omega arith) sound-cell)

        leads : Leads m.nodes node (number_of m.nodes address) (get_or m.cells address 0)
        leads =
            subst (λ (i : ℕ). Leads m.nodes node (number_of m.nodes address) (get_or m.cells i 0)) place
            (cell-leads m.nodes m.cells (address / 32) (address % 32) reach.1 (omega arith) sound-cell node a)

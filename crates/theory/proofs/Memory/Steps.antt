-- All workers at once: what Tried, Extended, Answer, Back, Left and a move do to memory and arrays keeps them in step with the machine.
-- Serves rules 3, 4 and 7, moves, and demand 3 of document 01. Assumes nothing.
use Rattle.std.specs.Prelude.{Bool, ◌≢◌, ◌≡◌, ◌<◌, ℕ}
use Rattle.std.proofs.Math.Bool.{false, true}
use mathlib.Core.List.{List, Memᴰ, [], ◌++◌, append-nil}
use Rattle.std.proofs.Math.Option.{Option, none, some}
use Rattle.std.proofs.Common.{◌∙◌, sym, eqb-true}
use Rattle.std.proofs.Math.Path.{ap, fun_ext, refl}
use Rattle.std.proofs.Math.Dec.{eqb}
use Rattle.model.specs.Definition.{Node, definition}
use Rattle.model.specs.Machine.{Slots, UsedSlot, child_slot, free, grow, raise, raised}
use Rattle.model.specs.Maps.{put}
use Rattle.model.specs.Rules.{Clause, Rules}
use Rattle.theory.proofs.Kit.Maps.{put_other, put_same}
use Rattle.theory.specs.Memory.Fit.{Fit, Ghost, Memory, SlotMemory, empty_array}
use Rattle.theory.specs.Memory.Lines.{Frame}
use Rattle.theory.specs.Memory.Store.{TrailEntry, Word, install_map, undo_map}
use Rattle.theory.proofs.Memory.Tracks.{install_map-append}
use Rattle.theory.specs.Memory.World.{InStep, node_in, nodes_of, walk}
use Rattle.theory.proofs.Memory.WorldFacts.{world_free, world-grow, world-move}

module _ (R : Rules) (q : Clause) where
  nodes_of-put : (S : Slots (definition R q)) (c : ℕ) (o : Option (UsedSlot (definition R q))) → nodes_of R q (put S c o) ≡ put (nodes_of R q S) c (node_in R q o)
  unfolding nodes_of
  nodes_of-put S c o = fun_ext (λ s. go s (eqb s c) refl)
    where
      go : (s : ℕ) (b : Bool) → eqb s c ≡ b → node_in R q (put S c o s) ≡ put (nodes_of R q S) c (node_in R q o) s
      go s true e = rw (e) refl
      go s false e = rw (e) refl

  nodes_of-raise : (S : Slots (definition R q)) (s : ℕ) (e : UsedSlot (definition R q)) → S s ≡ some e → nodes_of R q (raise (definition R q) S s e) ≡ nodes_of R q S
  unfolding nodes_of raise node_in
  nodes_of-raise S s e here = fun_ext (λ t. go t (eqb t s) refl)
    where
      go : (t : ℕ) (b : Bool) → eqb t s ≡ b → node_in R q (put S s (some (raised (definition R q) e)) t) ≡ node_in R q (S t)
      go t true z = rw (z) (ap (node_in R q) (sym here ∙ ap S (sym (eqb-true t s z))))
      go t false z = rw (z) refl

  pub nodes_of-used : (S : Slots (definition R q)) (s : ℕ) (e : UsedSlot (definition R q)) → S s ≡ some e → nodes_of R q S s ≡ some e.node
  unfolding nodes_of node_in
  nodes_of-used S s e u = ap (node_in R q) u

  -- Tried: the count is no part of the fixed memory
  pub in_step-tried : (S : Slots (definition R q)) (at : ℕ → ℕ) (X : Memory) (array : ℕ → ℕ → Word) (Γ : ℕ → Ghost) (W s : ℕ) (e : UsedSlot (definition R q))
      → S s ≡ some e → InStep R q S at X array Γ W → InStep R q (raise (definition R q) S s e) at X array Γ W
  in_step-tried S at X array Γ W s e here r = record { world = rw (nodes_of-raise S s e here) r.world; arrays = r.arrays }

  arrays-put : (at : ℕ → ℕ) (array : ℕ → ℕ → Word) (Γ : ℕ → Ghost) (w t : ℕ) (a : ℕ → Word) (W : ℕ) → ((v : ℕ) → v < W → array v ≡ walk (Γ (at v))) → a ≡ walk (Γ t)
      → (v : ℕ) → v < W → put array w a v ≡ walk (Γ (put at w t v))
  arrays-put at array Γ w t a W h e v l = go (eqb v w) refl
    where
      go : (b : Bool) → eqb v w ≡ b → put array w a v ≡ walk (Γ (put at w t v))
      go true z = rw (z) e
      go false z = rw (z) (h v l)

  -- a move over the entries c that both lines share
  pub in_step-move : (S : Slots (definition R q)) (at : ℕ → ℕ) (X : Memory) (array : ℕ → ℕ → Word) (Γ : ℕ → Ghost) (W w t : ℕ) (e : UsedSlot (definition R q)) (c x y : List TrailEntry)
      → w < W
      → S (at w) ≡ some e → (Γ (at w)).entries ≡ c ++ x → (Γ t).entries ≡ c ++ y → InStep R q S at X array Γ W
      → InStep R q S (put at w t) X (put array w (install_map y (undo_map x (array w)))) Γ W
  in_step-move S at X array Γ W w t e c x y lw u mx my r =
      record {
        world = r.world;
        arrays = arrays-put at array Γ w t (install_map y (undo_map x (array w))) W r.arrays
            (ap (λ (f : ℕ → Word). install_map y (undo_map x f)) (r.arrays w lw) ∙ world-move (nodes_of R q S) X Γ r.world (at w) e.node (nodes_of-used S (at w) e u) c x y mx ∙ ap (λ (m : List TrailEntry). install_map m empty_array) (sym my));
      }

  -- Back: the slot is given back, the worker goes to the parent, its trail is taken out
  pub in_step-back : (S : Slots (definition R q)) (at : ℕ → ℕ) (X : Memory) (array : ℕ → ℕ → Word) (Γ : ℕ → Ghost) (W w t : ℕ) (e : UsedSlot (definition R q)) (x : List TrailEntry)
      → w < W
      → S (at w) ≡ some e → (Γ (at w)).entries ≡ (Γ t).entries ++ x
      → ((s : ℕ) (N : Node) → nodes_of R q S s ≡ some N → s ≢ at w → (f : Frame) → Memᴰ f (Γ s).line → f.slot ≢ at w)
      → InStep R q S at X array Γ W
      → InStep R q (free (definition R q) S (at w)) (put at w t) (put X (at w) none) (put array w (undo_map x (array w))) Γ W
  unfolding free install_map node_in
  in_step-back S at X array Γ W w t e x lw u m off r =
      let k = in_step-move S at X array Γ W w t e (Γ t).entries x [] lw u m (sym (append-nil (Γ t).entries)) r in
      record { world = rw (nodes_of-put S (at w) none) (world_free (nodes_of R q S) X Γ (at w) r.world off); arrays = k.arrays }

  -- Extended and Answer: the child c with node N, slot v and ghosts G; the worker goes there with the new trail in its array
  pub in_step-grow : (S : Slots (definition R q)) (at : ℕ → ℕ) (X : Memory) (array : ℕ → ℕ → Word) (Γ : ℕ → Ghost) (W w : ℕ) (e : UsedSlot (definition R q)) (c : ℕ) (N : Node) (v : SlotMemory) (G : Ghost)
      → w < W
      → S (at w) ≡ some e → S c ≡ none → G.entries ≡ (Γ (at w)).entries ++ v.trail → Fit (put X c (some v)) G N
      → ((u : ℕ) → u < W → at u ≢ c) → InStep R q S at X array Γ W
      → InStep R q (grow (definition R q) S (at w) e c N) (put at w c) (put X c (some v)) (put array w (install_map v.trail (array w))) (put Γ c G) W
  unfolding grow node_in nodes_of
  in_step-grow S at X array Γ W w e c N v G lw u room m f away r =
      record {
        world = rw (nodes_of-put (raise (definition R q) S (at w) e) c (some (child_slot (definition R q) (at w) e N)), nodes_of-raise S (at w) e u) (world-grow (nodes_of R q S) X Γ c N v G r.world (r.world.free c (ap (node_in R q) room)) f);
        arrays = arrays-put at array (put Γ c G) w c (install_map v.trail (array w)) W others here;
      }
    where
      others : (k : ℕ) → k < W → array k ≡ walk (put Γ c G (at k))
      others k l = r.arrays k l ∙ ap walk (sym (put_other Γ c (at k) G (away k l)))

      here : install_map v.trail (array w) ≡ walk (put Γ c G c)
      here = ap (install_map v.trail) (r.arrays w lw) ∙ sym (install_map-append (Γ (at w)).entries v.trail empty_array) ∙ ap (λ (t : List TrailEntry). install_map t empty_array) (sym m) ∙ ap walk (sym (put_same Γ c G))

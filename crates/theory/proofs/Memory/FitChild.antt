-- After rule 7's unifying in memory the new slot fits the definition's child, and after the load slot 0 fits the query's root.
-- Serves rule 7 and "Load .. sets memory afresh" of document 01. Assumes nothing.
use Rattle.std.specs.Prelude.{Bool, false, true, ◌≢◌, ◌⊎◌, ◌≡◌, eqb}
use mathlib.Core.List.Memᴰ
use mathlib.Core.List.{List, Memᴰ, [], ◌++◌, ◌∷◌}
use Rattle.std.proofs.Common.{inl, inr, ◌∙◌, arith, eqb-true}
use Rattle.std.proofs.Math.Option.{Option, none, some}
use Rattle.std.proofs.Math.Path.{ap, refl, sym}
use Prim.Native.Nat.{◌%◌, ◌*◌, ◌+◌, ◌/◌, ◌<◌, ◌≤◌, ℕ}
use Rattle.std.proofs.lemmas.Bool.{eqb-false}
use Rattle.model.specs.Definition.{Node, lookup, root}
use Rattle.model.specs.Maps.{put}
use Rattle.model.specs.Rules.{Clause}
use Rattle.theory.specs.Definition.Sane.{BoundOnce, Sane}
use Rattle.theory.proofs.Kit.Maps.{put_other, put_same, some-none}
use Rattle.theory.proofs.Memory.Child.{Blank, old-low, on-cases, on-up}
use Rattle.theory.specs.Memory.Fit.{EndsShort, Fit, Ghost, Memory, SlotMemory, Spot, StoredFrame, base_in, cell_of, cells_in, empty_array, number_of, store_of}
use Rattle.theory.proofs.Memory.FitFrame.{fit-frame, fit-numbered, represents-agrees, shown_entries-agrees}
use Rattle.theory.proofs.Memory.Heads.{conditionals_shown-append, shown_entries-append}
use Rattle.theory.proofs.Memory.LineFacts.{chain_snoc, line_end-snoc}
use Rattle.theory.specs.Memory.Lines.{Chain, Frame, Numbered, OnLine, line_end, place_on}
use Rattle.theory.specs.Memory.Represents.{HeadFits, Place, Tracks}
use Rattle.theory.specs.Memory.Store.{Shown, TrailEntry, Word, Work, cell_else_array, conditionals_shown, install_map, lookup_stored, ref_word, shown_entries, unbound_word, value}
use Rattle.theory.proofs.Memory.Tracks.{install_map-append}

-- rule 7: a blank child is put into the free slot c, its head is unified, and the slot gets what came of it
module _ (X : Memory) (G : Ghost) (N : Node) (t : Fit X G N) (s c nv : ℕ) (cl : Clause) (room : X c ≡ none) (small : nv ≤ 32) (short : EndsShort G.entries (N.base + N.variables)) where
  abbrev pub child_frame : Frame
  child_frame = record { slot = c; base = line_end 0 G.line; variables = nv }

  abbrev pub child_memory : (ℕ → Word) → List TrailEntry → Option Spot → SlotMemory
  child_memory cells new sp = record { parent = s; base = line_end 0 G.line; variables = nv; clause = cl; spot = sp; cells = cells; trail = new }

  abbrev pub with_blank : Memory
  with_blank = put X c (some (child_memory empty_array [] none))

  abbrev pub blank_place : Place
  blank_place = place_on (G.line ++ (child_frame ∷ [])) (number_of with_blank)

  abbrev pub blank_work : Work
  blank_work = record { store = store_of with_blank G.entries; trail = [] }

  off : (g : Frame) → Memᴰ g G.line → g.slot ≢ c
  off g m e = let k = t.frames g m in some-none k.used (ap X e ∙ room)

  fit-blank : Fit with_blank G N
  fit-blank = fit-frame X with_blank G N (λ u v e f m q. put_other X c u (some (child_memory empty_array [] none)) (λ z. off f m (q ∙ z)) ∙ e) t

  stored : (v : SlotMemory) → v.base ≡ line_end 0 G.line → (f : Frame) → Memᴰ f (G.line ++ (child_frame ∷ [])) → StoredFrame (put X c (some v)) f
  stored v b f m = go (Memᴰ.append_cases G.line m)
    where
      go : Memᴰ f G.line ⊎ Memᴰ f (child_frame ∷ []) → StoredFrame (put X c (some v)) f
      go (inl k) = let x = t.frames f k in record { slot = x.slot; used = put_other X c f.slot (some v) (off f k) ∙ x.used; base = x.base }
      go (inr k) =
          let e = Memᴰ.eq_of_singleton k in
          record { slot = v; used = rw e (put_same X c (some v)); base = b ∙ ap (λ (r : Frame). r.base) (sym e) }

  pub blank-numbered : Numbered (G.line ++ (child_frame ∷ [])) (number_of with_blank)
  blank-numbered = fit-numbered with_blank (G.line ++ (child_frame ∷ [])) (stored (child_memory empty_array [] none) refl)

  pub blank-child : Blank G.line child_frame (number_of with_blank) t.chain refl small blank-numbered N.bindings (store_of with_blank G.entries)
  unfolding EndsShort cell_of cells_in
  blank-child =
      record {
        rep = fit-blank.rep;
        cells = λ a e. ap (λ (x : Option SlotMemory). cells_in x (a % 32)) (ap with_blank e ∙ put_same X c (some (child_memory empty_array [] none)));
        array = λ n h. short n (rw t.ending at h);
        low = λ n h. t.low n (rw t.ending at h);
      }

  pub fit-child : (W : Work) (sp : Option Spot) (N' : Node) → N'.base ≡ N.base + N.variables → N'.variables ≡ nv → Sane N'.bindings
      → ((n : ℕ) → N'.base + N'.variables ≤ n → lookup N'.bindings n ≡ none)
      → Tracks blank_place (line_end 0 G.line) blank_work W → HeadFits blank_place N.bindings N'.bindings blank_work W
      → Fit (put X c (some (child_memory (λ i. W.store.cell (32 * c + i)) W.trail sp))) (record { line = G.line ++ (child_frame ∷ []); entries = G.entries ++ W.trail }) N'
  unfolding lookup_stored cell_else_array cell_of cells_in number_of base_in shown_entries
  fit-child W sp N' eb ev sn lo tr al =
      record {
        chain = chain_snoc 0 G.line child_frame t.chain refl small;
        frames = stored kid refl;
        ending = line_end-snoc 0 G.line child_frame ∙ omega (arith, t.ending, eb, ev);
        rep = represents-agrees (G.line ++ (child_frame ∷ [])) (number_of with_blank) (number_of X₁) nums N'.bindings W.store (store_of X₁ (G.entries ++ W.trail)) same al.rep;
        sane = sn;
        low = lo;
        linked = λ m k b q. linked m b q (Memᴰ.append_cases G.entries k);
        entries =
            shown_entries-agrees (G.line ++ (child_frame ∷ [])) (number_of with_blank) (number_of X₁) nums (G.entries ++ W.trail) (λ m k b q. linked m b q (Memᴰ.append_cases G.entries k))
            ∙ shown_entries-append blank_place G.entries W.trail
            ∙ ap (λ (x : List Shown). x ++ shown_entries blank_place.number W.trail) fit-blank.entries
            ∙ ap (λ (x : List Shown). conditionals_shown N.bindings ++ x) al.trail
            ∙ sym (conditionals_shown-append N.bindings al.made)
            ∙ ap conditionals_shown (sym al.is);
      }
    where
      kid : SlotMemory
      kid = child_memory (λ i. W.store.cell (32 * c + i)) W.trail sp

      X₁ : Memory
      X₁ = put X c (some kid)

      nums : (a : ℕ) → OnLine (G.line ++ (child_frame ∷ [])) a → number_of X₁ a ≡ number_of with_blank a
      nums a o = go (eqb (a / 32) c) refl
        where
          go : (b : Bool) → eqb (a / 32) c ≡ b → number_of X₁ a ≡ number_of with_blank a
          go true q = rw (q) refl
          go false q = rw (q) refl

      linked : (m : TrailEntry) (b : ℕ) → m.word ≡ ref_word b → Memᴰ m G.entries ⊎ Memᴰ m W.trail → OnLine (G.line ++ (child_frame ∷ [])) b
      linked m b q (inl k) = on-up G.line child_frame (number_of with_blank) t.chain refl small blank-numbered b (t.linked m k b q)
      linked m b q (inr k) = al.linked (λ x y. absurd (Memᴰ.not-nil y)) m k b q

      arrays : install_map (G.entries ++ W.trail) empty_array ≡ W.store.array
      arrays = install_map-append G.entries W.trail empty_array ∙ ap (λ (x : List TrailEntry). install_map x (install_map G.entries empty_array)) tr.trail ∙ sym tr.array

      cells : (a : ℕ) → OnLine (G.line ++ (child_frame ∷ [])) a → (b : Bool) → eqb (a / 32) c ≡ b → cell_of X₁ a ≡ W.store.cell a
      cells a o true q =
          let e = eqb-true (a / 32) c q in
          let r : 32 * c + a % 32 ≡ a = omega arith in
          ap (λ (x : Option SlotMemory). cells_in x (a % 32)) (ap X₁ e ∙ put_same X c (some kid)) ∙ ap W.store.cell r
      cells a o false q =
          let e = eqb-false (a / 32) c q in
          ap (λ (x : Option SlotMemory). cells_in x (a % 32)) (put_other X c (a / 32) (some kid) e ∙ sym (put_other X c (a / 32) (some (child_memory empty_array [] none)) e))
          ∙ sym (tr.cells a (below (on-cases G.line child_frame (number_of with_blank) t.chain refl small blank-numbered a o) e))
        where
          below : OnLine G.line a ⊎ ((a / 32 ≡ c) × (a % 32 < nv)) → a / 32 ≢ c → number_of with_blank a < line_end 0 G.line
          below (inl k) e = old-low G.line child_frame (number_of with_blank) t.chain refl small blank-numbered a k
          below (inr k) e = absurd (e k.0)

      same : (a : ℕ) → OnLine (G.line ++ (child_frame ∷ [])) a
          → lookup_stored (number_of X₁) (store_of X₁ (G.entries ++ W.trail)) a ≡ lookup_stored blank_place.number W.store a
      same a o =
          ap (λ (f : ℕ → Word). cell_else_array (cell_of X₁ a) (f (number_of X₁ a))) arrays
          ∙ ap (λ (n : ℕ). cell_else_array (cell_of X₁ a) (W.store.array n)) (nums a o)
          ∙ ap (λ (x : Word). cell_else_array x (W.store.array (number_of with_blank a))) (cells a o (eqb (a / 32) c) refl)

  -- the child's walk binds nothing at or past the end of the parent's line, so nothing past its own
  pub ends_short-child : (W : Work) → Tracks blank_place (line_end 0 G.line) blank_work W → EndsShort (G.entries ++ W.trail) (N.base + N.variables)
  unfolding EndsShort
  ends_short-child W tr n h =
      ap (λ (f : ℕ → Word). f n) (install_map-append G.entries W.trail empty_array ∙ ap (λ (x : List TrailEntry). install_map x (install_map G.entries empty_array)) tr.trail ∙ sym tr.array)
      ∙ tr.low n (rw t.ending h) ∙ short n h

-- the load: the root's slot fits the query's node
pub fit-root : (q : Clause) (v : SlotMemory) (X : Memory) → X 0 ≡ some v → v.base ≡ 0 → ((i : ℕ) → v.cells i ≡ unbound_word) → q.variables ≤ 32
    → Fit X (record { line = record { slot = 0; base = 0; variables = q.variables } ∷ []; entries = [] }) (root q)
unfolding Chain line_end root lookup_stored cell_else_array cell_of cells_in value lookup shown_entries conditionals_shown install_map BoundOnce
fit-root q v X u b bare small =
    record {
      chain = (refl, small, tt);
      frames = λ f m. let e = Memᴰ.eq_of_singleton m in record { slot = v; used = rw e u; base = b ∙ ap (λ (r : Frame). r.base) (sym e) };
      ending = refl;
      rep = record { same = λ a o. sym (ap (value (number_of X)) (clear a o)); kept = λ a c o e. absurd (never (sym (clear a o) ∙ e)) };
      sane = record { falls = λ n m e. absurd (some-none e refl); bound_once = tt };
      low = λ n h. refl;
      linked = λ m k. absurd (Memᴰ.not-nil k);
      entries = refl;
    }
  where
    never : {c : ℕ} → unbound_word ≡ ref_word c → ⊥
    never e = let z : ◌≡◌ {A = ℕ} 0 1 = cc in omega arith

    clear : (a : ℕ) → OnLine (record { slot = 0; base = 0; variables = q.variables } ∷ []) a → lookup_stored (number_of X) (store_of X []) a ≡ unbound_word
    clear a o =
        let e = Memᴰ.eq_of_singleton o.among in
        let z : X (a / 32) ≡ some v = ap X (o.slot ∙ ap (λ (r : Frame). r.slot) e) ∙ u in
        rw (z) (rw (bare (a % 32)) refl)

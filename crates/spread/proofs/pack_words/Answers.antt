-- `spread::pack_words` meets its contract. Assumes nothing.
use mathlib.Core.List.{List}
use mathlib.Core.Path.{◌≡◌, refl, sym, ap, ◌∙◌}
use Prim.Native.Nat.{ℕ, ◌+◌, ◌≤◌, ◌<◌}
use native.Mathlib.Omega.{arith}
use lib.Seq.{sets}
use lib.ListN.{length, drop, set, length-set}
use Rattle.model.specs.declared.Kind.{Kind}
use Rattle.std.proofs.Common.{Ok}
use Rattle.model.specs.Spread.{packed_word, group_size, scan_from, scan, packed_from, packed}
use Rattle.spread.proofs.AnswerLaws.{filled}
use Rattle.spread.proofs.StepLaws.{Turn, turn, takes, pack-over, counted, stores-word}
use Rattle.spread.proofs.pack_words.Goals as goal

-- the group at the place, which is judged through, and that there is room for its word
record Step (count number at most room : ℕ) (list : List ℕ) : Type 0 where
  next : ℕ
  turns : Turn count number at list most next
  room_for : number < room

step : (count number at most room : ℕ) (list : List ℕ) → at < length list → length list ≤ at + most → scan_from most count number at (drop at list) ≡ Ok room
    → Step count number at most room list
step count number at most room list h fuel e =
    let t = takes count number at list most room h fuel e in
    let s = turn count number at list most t.0 h fuel t.1 in
    record { next = t.0; turns = s; room_for = omega (arith, counted count number at list most room fuel e, ap length s.packs) }

pub loop-at-init : goal.loop-at-init
unfolding scan packed
loop-at-init c =
    let list = c.args.list.now in
    let e = c.word_at-count.ensures in record {
      most = length list;
      fuel = omega arith;
      inside = omega arith;
      as_long = refl;
      scans = ap (λ (n : ℕ). scan_from (length list) n 0 0 list) e ∙ c.requires;
      packs = ap (λ (n : ℕ). sets c.args.words.now 0 (packed_from (length list) n 0 list)) e ∙ filled list c.args.words.now c.requires;
    }

pub join_group-word-requires : goal.join_group-word-requires
join_group-word-requires c =
    let l = c.loop-at in
    let i = l.invariant in
    let s = step c.word_at-count.result l.number l.at i.most (length c.args.words.now) c.args.list.now c.loop-at-test.true i.fuel i.scans in
    rw c.kind_at-kind.ensures (s.turns.through ∙ ap Ok s.turns.ends)

pub offset_bounds-words-number : goal.offset_bounds-words-number
offset_bounds-words-number c =
    let l = c.loop-at in
    let i = l.invariant in
    let s = step c.word_at-count.result l.number l.at i.most (length c.args.words.now) c.args.list.now c.loop-at-test.true i.fuel i.scans in
    omega (arith, s.room_for)

pub bounds-words-number : goal.bounds-words-number
bounds-words-number c =
    let l = c.loop-at in
    let i = l.invariant in
    let s = step c.word_at-count.result l.number l.at i.most (length c.args.words.now) c.args.list.now c.loop-at-test.true i.fuel i.scans in
    omega (arith, s.room_for, i.as_long)

pub overflow_add-at : goal.overflow_add-at
overflow_add-at c =
    let l = c.loop-at in
    let i = l.invariant in
    let s = step c.word_at-count.result l.number l.at i.most (length c.args.words.now) c.args.list.now c.loop-at-test.true i.fuel i.scans in
    omega (arith, c.size_of-at.ensures ∙ ap group_size c.kind_at-kind.ensures, s.turns.ends, s.turns.inside)

pub overflow_add-number : goal.overflow_add-number
overflow_add-number c =
    let l = c.loop-at in
    let i = l.invariant in
    let s = step c.word_at-count.result l.number l.at i.most (length c.args.words.now) c.args.list.now c.loop-at-test.true i.fuel i.scans in
    omega (arith, s.room_for)

pub loop-at-smaller : goal.loop-at-smaller
loop-at-smaller c =
    let l = c.loop-at in
    let i = l.invariant in
    let s = step c.word_at-count.result l.number l.at i.most (length c.args.words.now) c.args.list.now c.loop-at-test.true i.fuel i.scans in
    omega (arith, c.size_of-at.ensures ∙ ap group_size c.kind_at-kind.ensures, s.turns.ends, s.turns.ahead, s.turns.inside)

pub loop-at-preserved : goal.loop-at-preserved
loop-at-preserved c =
    let list = c.args.list.now in
    let count = c.word_at-count.result in
    let l = c.loop-at in
    let i = l.invariant in
    let s = step count l.number l.at i.most (length c.args.words.now) list c.loop-at-test.true i.fuel i.scans in
    let t = s.turns in
    let n : l.at + c.size_of-at.result ≡ s.next = omega (arith, c.size_of-at.ensures ∙ ap group_size c.kind_at-kind.ensures, t.ends) in
    let w = c.join_group-word.ensures ∙ ap (λ (kind : Kind). packed_word kind (drop l.at list)) c.kind_at-kind.ensures in record {
      most = t.left;
      fuel = omega (arith, n, t.fuel);
      inside = omega (arith, n, t.inside);
      as_long = length-set l.words l.number c.join_group-word.result ∙ i.as_long;
      scans = ap (λ (m : ℕ). scan_from t.left count (l.number + 1) m (drop m list)) n ∙ t.scans ∙ i.scans;
      packs = ap (λ (m : ℕ). sets (set l.words l.number c.join_group-word.result) (l.number + 1) (packed_from t.left count (l.number + 1) (drop m list))) n
          ∙ stores-word count l.number l.at list l.words c.join_group-word.result i.most t.left s.next w t.packs ∙ i.packs;
    }

pub returns : goal.returns
returns c =
    let l = c.loop-at in
    sym (ap (sets l.words l.number) (pack-over c.word_at-count.result l.number l.at c.args.list.now l.invariant.most c.loop-at-test.false)) ∙ l.invariant.packs

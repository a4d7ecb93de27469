-- A walk over the blocks: its fuel, one step of it, and that it tiles the file.
use Rattle.std.proofs.Common.{◌≡◌, ℕ, zero, suc, ◌+◌, ◌<◌, ◌≤◌, Bool, true, false, cond, List, [], ◌∷◌, length, take, drop, Some, None, sym, refl, ap, ◌∙◌, subst, ap₂, arith, length-drop, length-take}
use Rattle.std.proofs.lemmas.Bool.{leb-true, lt-leb}
use Rattle.image.specs.Files.{BlockOf, Walk, word, block_at, past, complete, before, walked, blocks_from, blocks_end}
use Rattle.image.specs.Laws.{Tiles}
use Rattle.image.specs.Parts.{Heads, Stands}
use Rattle.image.proofs.Header.{head_at}

abbrev step : Bool → List ℕ → ℕ → Walk → Walk
step z file offset onward = elim z [ true ↦ before (block_at file offset) onward | false ↦ record { blocks = []; end = offset } ]

-- No block stands at the end of a file.
short : (file : List ℕ) (offset : ℕ) → length file ≤ offset → complete file offset ≡ false
short file offset h = let over : length file < past file offset = omega arith in lt-leb (past file offset) (length file) over

-- Any fuel that covers the rest of the file gives the same walk.
enough : (n m : ℕ) (file : List ℕ) (offset : ℕ) → length file ≤ offset + n → length file ≤ offset + m → walked n file offset ≡ walked m file offset
unfolding walked
enough zero zero file offset p q = refl
enough zero (suc m) file offset p q = sym (ap (λ z. step z file offset (walked m file (past file offset))) (short file offset (omega arith)))
enough (suc n) zero file offset p q = ap (λ z. step z file offset (walked n file (past file offset))) (short file offset (omega arith))
enough (suc n) (suc m) file offset p q = ap (λ w. step (complete file offset) file offset w) (enough n m file (past file offset) (omega arith) (omega arith))

-- The walk from an offset, by whether a block stands there.
one : (file : List ℕ) (offset : ℕ) → walked (length file) file offset ≡ step (complete file offset) file offset (walked (length file) file (past file offset))
unfolding walked
one file offset = enough (length file) (suc (length file)) file offset (omega arith) (omega arith)

stepped : (file : List ℕ) (offset : ℕ) → complete file offset ≡ true → walked (length file) file offset ≡ before (block_at file offset) (walked (length file) file (past file offset))
stepped file offset e = one file offset ∙ ap (λ z. step z file offset (walked (length file) file (past file offset))) e

ended : (file : List ℕ) (offset : ℕ) → complete file offset ≡ false → walked (length file) file offset ≡ record { blocks = []; end = offset }
ended file offset e = one file offset ∙ ap (λ z. step z file offset (walked (length file) file (past file offset))) e

-- A complete block's bytes are as many as its length says.
bytes_length : (file : List ℕ) (offset : ℕ) → complete file offset ≡ true → length (block_at file offset).bytes ≡ word file (offset + 2)
bytes_length file offset e =
    let le : past file offset ≤ length file = leb-true (past file offset) (length file) e in
    simp (length-take, length-drop) (omega arith)

-- A walk that comes to the end of the file has tiled it.
pub tiles : (n : ℕ) (file : List ℕ) (offset : ℕ) → (walked n file offset).end ≡ length file → Tiles file offset (walked n file offset).blocks
unfolding walked Tiles
tiles zero file offset e = e
tiles (suc n) file offset e = go (complete file offset) refl (walked n file (past file offset)) (tiles n file (past file offset)) e
  where
    go : (z : Bool) → complete file offset ≡ z → (w : Walk) → (w.end ≡ length file → Tiles file (past file offset) w.blocks) → (step z file offset w).end ≡ length file → Tiles file offset (step z file offset w).blocks
    go true c w more h =
        let l : length (block_at file offset).bytes ≡ word file (offset + 2) = bytes_length file offset c in (
          refl,
          ap (λ k. take k (drop (offset + 4) file)) (sym l),
          subst (λ k. Tiles file (offset + 4 + k) w.blocks) (sym l) (more h),
        )
    go false c w more h = h

-- What a block that was found says of the file.
record Found (file : List ℕ) (offset : ℕ) (b : BlockOf) : Type 0 where
  pub whole : complete file offset ≡ true
  pub same : b ≡ block_at file offset

found : (file : List ℕ) (offset : ℕ) (b : BlockOf) → Some b ≡ head_at file offset → Found file offset b
found file offset b e = go (complete file offset) refl e
  where
    go : (z : Bool) → complete file offset ≡ z → Some b ≡ cond z (Some (block_at file offset)) None → Found file offset b
    go true c h = record { whole = c; same = cc }
    go false c h = let z : ◌≡◌ {A = ℕ} 0 1 = cc in absurd (omega arith)

missing : (file : List ℕ) (offset : ℕ) → None ≡ head_at file offset → complete file offset ≡ false
missing file offset e = go (complete file offset) refl e
  where
    go : (z : Bool) → complete file offset ≡ z → None ≡ cond z (Some (block_at file offset)) None → complete file offset ≡ false
    go true c h = let z : ◌≡◌ {A = ℕ} 0 1 = cc in absurd (omega arith)
    go false c h = c

-- The offset behind it, as the code computes it.
behind : (file : List ℕ) (offset : ℕ) (b : BlockOf) → Found file offset b → offset + (4 + length b.bytes) ≡ past file offset
behind file offset b f =
    let l : length b.bytes ≡ word file (offset + 2) = ap (λ x. length x.bytes) f.same ∙ bytes_length file offset f.whole in
    omega arith

pub heads : (file : List ℕ) (offset : ℕ) (b : BlockOf) → Some b ≡ head_at file offset → Heads b file offset
heads file offset b e =
    let f = found file offset b e in
    let n : offset + (4 + length b.bytes) ≡ past file offset = behind file offset b f in
    let le : past file offset ≤ length file = leb-true (past file offset) (length file) f.whole in
    let w = stepped file offset f.whole in (
      omega arith,
      ap (λ w. w.blocks) w ∙ ap₂ (λ x k. x ∷ blocks_from file k) (sym f.same) (sym n),
      ap (λ w. w.end) w ∙ ap (λ k. blocks_end file k) (sym n),
    )

pub ends : (file : List ℕ) (offset : ℕ) → None ≡ head_at file offset → Stands None file offset
ends file offset e = let w = ended file offset (missing file offset e) in (ap (λ w. w.blocks) w, ap (λ w. w.end) w)

-- What stands at an offset of a file, by what the rest of the file from there on has.
use Rattle.std.proofs.Common.{◌≡◌, ℕ, ◌+◌, ◌-◌, ◌*◌, ◌<◌, ◌≤◌, cond, List, length, get_or, take, drop, Some, None, Option, sym, refl, ap, ◌∙◌, ap₂, arith}
use Rattle.std.specs.List.{between}
use Rattle.std.proofs.lemmas.List.{get_or-drop, length-drop, drop-drop}
use Rattle.std.proofs.lemmas.Slice.{between_to_end}
use Rattle.std.proofs.lemmas.Bool.{le-leb, lt-leb}
use Rattle.image.specs.Files.{BlockOf, word, past, block_at, complete}

-- The block at an offset, if the file has all of it.
abbrev pub head_at : List ℕ → ℕ → Option BlockOf
head_at file offset = cond (complete file offset) (Some (block_at file offset)) None

none : (file : List ℕ) (offset : ℕ) → length file < past file offset → None ≡ head_at file offset
none file offset over = sym (ap (λ z. cond z (Some (block_at file offset)) None) (lt-leb (past file offset) (length file) over))

pub none_past : (file : List ℕ) (offset : ℕ) → length file < offset → None ≡ head_at file offset
none_past file offset h = none file offset (omega arith)

-- The rest of the file, and what follows its first four bytes.
module _ (file : List ℕ) (offset : ℕ) (rest : List ℕ) (is : rest ≡ between offset (length file) file) (ends : length rest + offset ≡ length file) where
  rest_is : rest ≡ drop offset file
  rest_is = is ∙ between_to_end file offset (length file) (omega arith)

  body_is : between 4 (length rest) rest ≡ drop (offset + 4) file
  body_is = between_to_end rest 4 (length rest) (omega arith) ∙ ap (drop 4) rest_is ∙ drop-drop 4 offset file

  body_length : length (between 4 (length rest) rest) ≡ length file - (offset + 4)
  body_length = ap length body_is ∙ length-drop (offset + 4) file

  -- The 16-bit number at a place of the rest is the one in the file.
  word_at : (k m : ℕ) → offset + k ≡ m → get_or rest k 0 ≡ get_or file m 0
  word_at k m e = ap (λ xs. get_or xs k 0) rest_is ∙ get_or-drop offset file k 0 ∙ ap (λ i. get_or file i 0) e

  size_is : get_or rest 2 0 * 256 + get_or rest 3 0 ≡ word file (offset + 2)
  size_is = ap₂ (λ x y. x * 256 + y) (word_at 2 (offset + 2) refl) (word_at 3 (offset + 2 + 1) (omega arith))

  address_is : get_or rest 0 0 * 256 + get_or rest 1 0 ≡ word file offset
  address_is = ap₂ (λ x y. x * 256 + y) (word_at 0 offset (omega arith)) (word_at 1 (offset + 1) refl)

  pub none_short : length rest < 4 → None ≡ head_at file offset
  none_short h = none file offset (omega arith)

  pub none_at : (size : ℕ) → size ≡ get_or rest 2 0 * 256 + get_or rest 3 0 → length (between 4 (length rest) rest) < size → None ≡ head_at file offset
  none_at size e h = none file offset (omega (arith, e, size_is, body_length))

  pub some_at :
      (address size : ℕ) (bytes : List ℕ)
      → address ≡ get_or rest 0 0 * 256 + get_or rest 1 0
      → size ≡ get_or rest 2 0 * 256 + get_or rest 3 0
      → 4 ≤ length rest
      → size ≤ length (between 4 (length rest) rest)
      → bytes ≡ between 0 size (between 4 (length rest) rest)
      → Some (record { offset = offset; address = address; bytes = bytes }) ≡ head_at file offset
  some_at address size bytes a e four h b =
      let s : size - 0 ≡ word file (offset + 2) = omega (arith, e, size_is) in
      let in_file : past file offset ≤ length file = omega (arith, s, body_length) in
      ◌∙◌ {b = Some (block_at file offset)}
      (ap₂ (λ x y. Some (record { offset = offset; address = x; bytes = y })) (a ∙ address_is) (b ∙ ap₂ (λ n xs. take n xs) s body_is))
      (sym (ap (λ z. cond z (Some (block_at file offset)) None) (le-leb (past file offset) (length file) in_file)))

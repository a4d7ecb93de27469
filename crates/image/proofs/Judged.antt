-- A file on which no ground holds is an image.
use Rattle.std.proofs.Common.{◌≡◌, ℕ, ◌≤◌, true, false, not, ltb, List, length, Ok, arith}
use Rattle.std.proofs.lemmas.Bool.{le-ltb, not_from_true}
use Rattle.image.specs.Files.{begins, parts_of, image_of, blocks_end}

pub accepted : (file : List ℕ) → length file ≤ 16384 → begins file ≡ true → 22 ≤ length file → length file ≤ blocks_end file 22 → image_of file ≡ Ok (parts_of file)
accepted file small marked headed whole =
    let a : ltb 16384 (length file) ≡ false = le-ltb 16384 (length file) small in
    let b : not (begins file) ≡ false = not_from_true (begins file) marked in
    let c : ltb (length file) 20 ≡ false = le-ltb (length file) 20 (omega arith) in
    let d : ltb (length file) 22 ≡ false = le-ltb (length file) 22 headed in
    let e : ltb (blocks_end file 22) (length file) ≡ false = le-ltb (blocks_end file 22) (length file) whole in
    simp (a, b, c, d, e)

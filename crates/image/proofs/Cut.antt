-- A file that is cut behind 16,385 bytes is judged as the whole of it is.
use Rattle.std.proofs.Common.{◌≡◌, ℕ, ◌<◌, Bool, true, false, ltb, List, length, take, Err, sym, refl, ap, ◌∙◌, arith}
use Rattle.std.proofs.lemmas.List.{take_all, length-take-le}
use Rattle.std.proofs.lemmas.Bool.{ltb-true, ltb-false, lt-ltb}
use Rattle.refusal.specs.declared.Ground.TheVariants.{WrongLength}
use Rattle.refusal.specs.Grounds.{refusal_of}
use Rattle.image.specs.Files.{image_of}
use Rattle.image.specs.Laws.{Suffices}

too_long : (file : List ℕ) → 16384 < length file → image_of file ≡ Err (refusal_of WrongLength 16384)
too_long file long =
    let a : ltb 16384 (length file) ≡ true = lt-ltb 16384 (length file) long in
    simp a

pub suffices : Suffices 16385
suffices file = go (ltb 16385 (length file)) refl
  where
    go : (z : Bool) → ltb 16385 (length file) ≡ z → image_of (take 16385 file) ≡ image_of file
    go true e =
        let long : 16385 < length file = ltb-true 16385 (length file) e in
        let size : length (take 16385 file) ≡ 16385 = length-take-le 16385 file (omega (arith, long)) in
        too_long (take 16385 file) (omega (arith, size)) ∙ sym (too_long file (omega (arith, long)))
    go false e = ap image_of (take_all 16385 file (ltb-false 16385 (length file) e))

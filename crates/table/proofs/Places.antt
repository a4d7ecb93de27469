-- Addresses with access at one place in memory are one address, so a write through the table is one cell's.
use Rattle.std.proofs.Common.{◌≡◌, ℕ, zero, suc, ◌+◌, ◌*◌, ◌/◌, ◌%◌, ◌<◌, Bool, true, false, cond, ◌&&◌, List, sym, refl, ap, ◌∙◌, ap₂, ⊎_elim, not-suc-le-zero, arith}
use Rattle.std.proofs.lemmas.Bool.{cases_eq}
use Rattle.std.proofs.lemmas.Bool.Decides.{nat_tests}
use Rattle.memory.specs.Memories.{Mem, put, stored}
use Rattle.table.specs.Tables.{Apart, access_in, writing_in, page_in, entry_of, physical, writes, frame_by}

-- A memory with a byte put at an address.
abbrev pub put_in : Mem → ℕ → ℕ → Mem
put_in m at b = record { byte = put m.byte at b; takes = m.takes }

module _ (t : List ℕ) (apart : Apart t) where
  pub one_place : (k at : ℕ) → access_in (entry_of t (k / 4096)) ≡ true → access_in (entry_of t (at / 4096)) ≡ true
      → physical t k ≡ physical t at → k ≡ at
  one_place k at hk ha e =
      let page : page_in (entry_of t (k / 4096)) ≡ page_in (entry_of t (at / 4096)) = omega arith in
      let sector : k / 4096 ≡ at / 4096 = apart (k / 4096) (at / 4096) (hk, ha, page) in
      omega arith

-- A sector that may be written is among those that may write its page.
pub named : (t : List ℕ) (n i : ℕ) → i < n → access_in (entry_of t i) ≡ true → writing_in (entry_of t i) ≡ true → writes t n (page_in (entry_of t i)) ≡ true
named t zero i h ha hw = absurd (not-suc-le-zero h)
named t (suc n) i h ha hw =
    ⊎_elim (λ e. let m : n ≡ i = sym e in grind (arith, nat_tests)) (λ d. let m = named t n i (omega (arith, d)) ha hw in grind (arith, nat_tests)) (cases_eq i n)

-- A byte put into a page that counts leaves the bytes of the pages that do not.
others_at : (counts : ℕ → Bool) (byte : ℕ → ℕ) (p b k : ℕ) → counts (p / 4096) ≡ true
    → cond (counts (k / 4096)) 0 (put byte p b k) ≡ cond (counts (k / 4096)) 0 (byte k)
others_at counts byte p b k h =
    ⊎_elim (λ e. let m : counts (k / 4096) ≡ true = ap (λ x. counts (x / 4096)) e ∙ h in simp m) (λ d. grind (arith, nat_tests, d)) (cases_eq k p)

stored_frame : (t : List ℕ) (l : ℕ) (m : Mem) (at b : ℕ) → (writes t 15 (physical t at / 4096) && m.takes (physical t at / 4096)) ≡ true
    → frame_by l t (put_in m (physical t at) b) ≡ frame_by l t m
stored_frame t l m at b h =
    λ i. record {
      lender = l;
      table = t;
      takes = m.takes;
      others = λ k. others_at (λ p. writes t 15 p && m.takes p) m.byte (physical t at) b k h i;
    }

-- A write of the memory through an entry with access and writing, whether its page takes writes or not.
module _ (t : List ℕ) (l : ℕ) (m m' : Mem) (at b e p : ℕ)
    (is : e ≡ entry_of t (at / 4096)) (place : p ≡ page_in e * 4096 + at % 4096) (access : access_in e ≡ true) (writing : writing_in e ≡ true)
    (changed : m' ≡ stored m p b) where
  access_in_lem : access_in (entry_of t (at / 4096)) ≡ true
  access_in_lem = ap access_in (sym is) ∙ access

  writing_in_lem : writing_in (entry_of t (at / 4096)) ≡ true
  writing_in_lem = ap writing_in (sym is) ∙ writing

  place_in : p ≡ physical t at
  place_in = place ∙ ap (λ x. page_in x * 4096 + at % 4096) is

  sector_in : at / 4096 < 15
  sector_in = grind (arith, nat_tests, access_in_lem)

  changed_by : (z : Bool) → m.takes (p / 4096) ≡ z → m' ≡ record { byte = cond z (put m.byte (physical t at) b) m.byte; takes = m.takes }
  changed_by z h =
      changed ∙ ap {B = Mem} (λ z. record { byte = cond z (put m.byte p b) m.byte; takes = m.takes }) h
      ∙ ap {B = Mem} (λ x. record { byte = cond z (put m.byte x b) m.byte; takes = m.takes }) place_in

  named_in : m.takes (p / 4096) ≡ true → (writes t 15 (physical t at / 4096) && m.takes (physical t at / 4096)) ≡ true
  named_in h =
      let q : physical t at / 4096 ≡ page_in (entry_of t (at / 4096)) = omega arith in
      ap₂ (λ x y. x && y) (ap (writes t 15) q ∙ named t 15 (at / 4096) sector_in access_in_lem writing_in_lem) (ap (λ x. m.takes (x / 4096)) (sym place_in) ∙ h)

  pub store_frame : frame_by l t m' ≡ frame_by l t m
  store_frame = go (m.takes (p / 4096)) refl
    where
      go : (z : Bool) → m.takes (p / 4096) ≡ z → frame_by l t m' ≡ frame_by l t m
      go true h = ap (frame_by l t) (changed_by true h) ∙ stored_frame t l m at b (named_in h)
      go false h = ap (frame_by l t) (changed_by false h)

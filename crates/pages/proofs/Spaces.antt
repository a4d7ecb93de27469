-- The algebra of a space that is written back.
use Rattle.std.proofs.lemmas.Bool.{and_from, and_parts}
use Rattle.std.proofs.Common.{◌≡◌, ℕ, zero, suc, ◌+◌, ◌*◌, ◌/◌, ◌%◌, ◌<◌, Bool, true, false, cond, ◌&&◌, eqb, ◌≢◌, sym, refl, ap, ◌∙◌, arith, eq-eqb, eqb-true, ⊎_elim}
use mathlib.Core.Path.{fun_ext}
use borrow.Author.Tests.{eqb-false}
use Rattle.memory.specs.Memories.{Mem}
use Rattle.space.specs.Cells.{Cell}
use Rattle.table.specs.Tables.{Apart, entry_of, access_in, physical}
use Rattle.pages.specs.Held.{Table, page_of, bytes_of, shown, Where, nowhere, sector, finds, is_there, named, holds, pick, back_byte, back, clip}
use Rattle.std.proofs.lemmas.Bool.{both_ways, cases_Bool}

-- What is found is a sector that has access to the page.
pub record At (t : Table) (n p i : ℕ) : Type 0 where
  pub low : i < n
  pub access : access_in (entry_of t i) ≡ true
  pub page : page_of t i ≡ p

abbrev pub Good : Table → ℕ → ℕ → Where → Type 0
Good t n p nowhere = (i : ℕ) → At t n p i → ⊥
Good t n p (sector i) = At t n p i

lower : (t : Table) (n p i : ℕ) → At t n p i → At t (suc n) p i
lower t n p i a = record { low = (let h : i < n = a.low in omega arith); access = a.access; page = a.page }

wider : (t : Table) (n p : ℕ) (f : Where) → (access_in (entry_of t n) && eqb (page_of t n) p) ≡ false → Good t n p f → Good t (suc n) p f
wider t n p nowhere e g = λ i a.
    ⊎_elim
    (λ q. absurd (both_ways (access_in (entry_of t n) && eqb (page_of t n) p)
    e
    (and_from (access_in (entry_of t n)) (eqb (page_of t n) p) (ap (λ x. access_in (entry_of t x)) (sym (eqb-true i n q)) ∙ a.access) (eq-eqb (page_of t n) p (ap (page_of t) (sym (eqb-true i n q)) ∙ a.page)))))
    (λ q. g i (record { low = (let ne : i ≢ n = eqb-false i n q in let h : i < suc n = a.low in omega arith); access = a.access; page = a.page }))
    (cases_Bool (eqb i n))
wider t n p (sector i) e g = lower t n p i g

pub found : (t : Table) (n p : ℕ) → Good t n p (finds t n p)
unfolding finds
found t zero p = λ i a. let h : i < 0 = a.low in omega arith
found t (suc n) p = go (access_in (entry_of t n) && eqb (page_of t n) p) refl (found t n p)
  where
    go : (z : Bool) → (access_in (entry_of t n) && eqb (page_of t n) p) ≡ z → Good t n p (finds t n p) → Good t (suc n) p (cond z (sector n) (finds t n p))
    go true e g =
        record {
          low = omega arith;
          access = (and_parts (access_in (entry_of t n)) (eqb (page_of t n) p) e).0;
          page = eqb-true (page_of t n) p ((and_parts (access_in (entry_of t n)) (eqb (page_of t n) p) e).1);
        }
    go false e g = wider t n p (finds t n p) e g

-- A page that is found, by its sector.
pub named_at : (n : ℕ) (t : Table) (p i : ℕ) → At t n p i → named n t p ≡ true
unfolding named
named_at n t p i a = go (finds t n p) (found t n p)
  where
    go : (f : Where) → Good t n p f → is_there f ≡ true
    go nowhere g = absurd (g i a)
    go (sector l) g = refl

pub named_some : (n : ℕ) (t : Table) (p : ℕ) → named n t p ≡ true → (i : ℕ) × At t n p i
unfolding named
named_some n t p e = go (finds t n p) (found t n p) e
  where
    go : (f : Where) → Good t n p f → is_there f ≡ true → (i : ℕ) × At t n p i
    go nowhere g e' = absurd (both_ways false refl e')
    go (sector l) g e' = (l, g)

pub access_low : (t : Table) (i : ℕ) → access_in (entry_of t i) ≡ true → i < 15
access_low t i a = grind arith

pub holds_at : (t : Table) (i : ℕ) → access_in (entry_of t i) ≡ true → holds t (page_of t i) ≡ true
holds_at t i a = named_at 15 t (page_of t i) i (record { low = access_low t i a; access = a; page = refl })

-- The page and the place of an address.
pub place_page : (t : Table) (a : ℕ) → physical t a / 4096 ≡ page_of t (a / 4096)
place_page t a = omega arith

place_off : (t : Table) (a : ℕ) → physical t a % 4096 ≡ a % 4096
place_off t a = omega arith

split : (a : ℕ) → a / 4096 * 4096 + a % 4096 ≡ a
split a = omega arith

at_sector : (t : Table) (i x : ℕ) → page_of t i ≡ x / 4096 → physical t (i * 4096 + x % 4096) ≡ x
at_sector t i x page =
    let sect : (i * 4096 + x % 4096) / 4096 ≡ i = omega arith in
    ap (λ u. page_of t u * 4096 + (i * 4096 + x % 4096) % 4096) sect ∙ omega arith

pub in_sector : (i x : ℕ) → (i * 4096 + x % 4096) / 4096 ≡ i
in_sector i x = omega arith

-- The byte of a memory that was written back: where the page takes no writes; where the page is not held, or takes none; and in any page.
pub back_fixed : (t : Table) (bs : ℕ → ℕ) (m : Mem) (x : ℕ) → m.takes (x / 4096) ≡ false → back_byte t bs m x ≡ m.byte x
unfolding back_byte
back_fixed t bs m x e = ap (λ z. cond z (pick (finds t 15 (x / 4096)) bs (x % 4096) (m.byte x)) (m.byte x)) e

pub back_else : (t : Table) (bs : ℕ → ℕ) (m : Mem) (x : ℕ) → (holds t (x / 4096) && m.takes (x / 4096)) ≡ false → back_byte t bs m x ≡ m.byte x
unfolding back_byte named
back_else t bs m x e = go (m.takes (x / 4096)) (finds t 15 (x / 4096)) e
  where
    go : (z : Bool) (f : Where) → (is_there f && z) ≡ false → cond z (pick f bs (x % 4096) (m.byte x)) (m.byte x) ≡ m.byte x
    go false f q = refl
    go true nowhere q = refl
    go true (sector i) q = absurd (both_ways true q refl)

pub back_all : (P : ℕ → Type 0) (t : Table) (bs : ℕ → ℕ) (m : Mem) (x : ℕ)
    → ((holds t (x / 4096) && m.takes (x / 4096)) ≡ false → P (m.byte x))
    → ((i : ℕ) → At t 15 (x / 4096) i → m.takes (x / 4096) ≡ true → P (bs (i * 4096 + x % 4096)))
    → P (back_byte t bs m x)
unfolding back_byte named
back_all P t bs m x old new = go (m.takes (x / 4096)) refl (finds t 15 (x / 4096)) refl (found t 15 (x / 4096))
  where
    go : (z : Bool) → m.takes (x / 4096) ≡ z → (f : Where) → finds t 15 (x / 4096) ≡ f → Good t 15 (x / 4096) f
        → P (cond z (pick f bs (x % 4096) (m.byte x)) (m.byte x))
    go false e f q g = old (ap (λ y. is_there (finds t 15 (x / 4096)) && y) e ∙ grind arith)
    go true e nowhere q g = old (ap (λ y. is_there y && m.takes (x / 4096)) q)
    go true e (sector i) q g = new i g e

-- A held page that takes writes holds what the space says at its sector, where the table names no page twice.
pub back_at : (t : Table) (bs : ℕ → ℕ) (m : Mem) (a : ℕ) → Apart t → access_in (entry_of t (a / 4096)) ≡ true → m.takes (page_of t (a / 4096)) ≡ true
    → back_byte t bs m (physical t a) ≡ bs a
back_at t bs m a once acc tk =
    back_all (λ v. v ≡ bs a) t bs m (physical t a)
    (λ e. absurd (both_ways (holds t (physical t a / 4096) && m.takes (physical t a / 4096))
    e
    (and_from (holds t (physical t a / 4096)) (m.takes (physical t a / 4096)) (ap (holds t) (place_page t a) ∙ holds_at t (a / 4096) acc) (ap m.takes (place_page t a) ∙ tk))))
    (λ i g e. let same : i ≡ a / 4096 = once i (a / 4096) (g.access, acc, g.page ∙ place_page t a) in
    ap bs (ap (λ y. y * 4096 + physical t a % 4096) same ∙ ap (λ y. a / 4096 * 4096 + y) (place_off t a) ∙ split a))

-- A space tells no more than the bytes of the pages that the table names.
abbrev cell : Cell → ℕ → Cell
cell c b = record { access = c.access; takes = c.takes; writable = c.writable; byte = b }

only : (z : Bool) (u v : ℕ) → (z ≡ true → u ≡ v) → cond z u 0 ≡ cond z v 0
only true u v h = h refl
only false u v h = refl

pub shown_same : (t : Table) (k : ℕ → Bool) (m n : ℕ → ℕ) → ((a : ℕ) → access_in (entry_of t (a / 4096)) ≡ true → m (physical t a) ≡ n (physical t a))
    → shown t (record { byte = m; takes = k }) ≡ shown t (record { byte = n; takes = k })
unfolding shown
shown_same t k m n h =
    fun_ext (λ a. ap (cell (shown t (record { byte = m; takes = k }) a)) (only (access_in (entry_of t (a / 4096))) (m (physical t a)) (n (physical t a)) (h a)))

-- What a job sees once its space was written back depends on what it saw and on what was written.
local_byte : (acc tk : Bool) (v u b : ℕ) → (acc ≡ true → tk ≡ true → v ≡ b) → (acc ≡ true → tk ≡ false → v ≡ u) → cond acc v 0 ≡ cond (acc && tk) b (cond acc u 0)
local_byte true true v u b f g = f refl refl
local_byte true false v u b f g = g refl refl
local_byte false tk v u b f g = refl

pub local : (t : Table) (bs : ℕ → ℕ) (m : Mem) → Apart t → shown t (back t bs m) ≡ clip (shown t m) bs
unfolding shown
local t bs m once =
    fun_ext
    (λ a. ap (cell (shown t m a))
    (local_byte (access_in (entry_of t (a / 4096))) (m.takes (page_of t (a / 4096))) (back_byte t bs m (physical t a)) (m.byte (physical t a)) (bs a)
    (back_at t bs m a once)
    (λ acc e. back_fixed t bs m (physical t a) (ap m.takes (place_page t a) ∙ e))))

-- What a space says of a byte in memory.
pub shown_at : (t : Table) (m : Mem) (n x i : ℕ) → At t n (x / 4096) i → bytes_of (shown t m) (i * 4096 + x % 4096) ≡ m.byte x
unfolding shown
shown_at t m n x i g =
    let a : ℕ = i * 4096 + x % 4096 in
    ap (λ z. cond z (m.byte (physical t a)) 0) (ap (λ u. access_in (entry_of t u)) (in_sector i x) ∙ g.access) ∙ ap m.byte (at_sector t i x g.page)

-- A memory that differs from another in held pages that take writes alone is the other with a space written back.
pub lands : (t : Table) (bs : ℕ → ℕ) (m : Mem) (n : ℕ → ℕ)
    → ((x : ℕ) → (holds t (x / 4096) && m.takes (x / 4096)) ≡ false → n x ≡ m.byte x)
    → ((x i : ℕ) → At t 15 (x / 4096) i → m.takes (x / 4096) ≡ true → n x ≡ bs (i * 4096 + x % 4096))
    → n ≡ back_byte t bs m
lands t bs m n h g = fun_ext (λ x. back_all (λ v. n x ≡ v) t bs m x (h x) (g x))

-- A space that is as it was leaves memory as it was.
pub back_same : (t : Table) (m : Mem) → back t (bytes_of (shown t m)) m ≡ m
back_same t m =
    ap {B = Mem} (λ (b : ℕ → ℕ). record { byte = b; takes = m.takes })
    (sym (lands t (bytes_of (shown t m)) m m.byte (λ x e. refl) (λ x i g e. sym (shown_at t m 15 x i g))))

-- Spaces of jobs that share only pages which take no writes.
use Rattle.std.proofs.Common.{◌≡◌, ℕ, ◌+◌, ◌*◌, ◌/◌, ◌%◌, Bool, true, false, cond, ◌&&◌, sym, refl, ap, ◌∙◌}
use mathlib.Core.Path.{fun_ext}
use Rattle.memory.specs.Memories.{Mem}
use Rattle.space.specs.Cells.{Cell, Cells}
use Rattle.table.specs.Tables.{Apart, entry_of, access_in, writing_in, physical}
use Rattle.pages.specs.Held.{Table, page_of, bytes_of, shown, holds, back_byte, back, clip}
use Rattle.std.proofs.lemmas.Bool.{both_ways}
use Rattle.pages.proofs.Spaces.{named_some, holds_at, place_page, back_all, shown_same, local, shown_at}

-- A page that both have access to takes no writes.
abbrev pub Aside : Mem → Table → Table → Type 0
Aside m t u = (i j : ℕ) → access_in (entry_of t i) ≡ true → access_in (entry_of u j) ≡ true → page_of t i ≡ page_of u j → m.takes (page_of t i) ≡ false

pub aside_sym : (m : Mem) (t u : Table) → Aside m t u → Aside m u t
aside_sym m t u h i j a b e = ap m.takes e ∙ h j i b a (sym e)

-- After one job's space was written back, the other sees what it saw.
pub aside : (t u : Table) (bs : ℕ → ℕ) (m : Mem) → Aside m t u → shown u (back t bs m) ≡ shown u m
aside t u bs m h =
    shown_same u m.takes (back_byte t bs m) m.byte
    (λ a acc. back_all (λ v. v ≡ m.byte (physical u a)) t bs m (physical u a) (λ e. refl)
    (λ i g e. absurd (both_ways (m.takes (physical u a / 4096)) (ap m.takes (sym g.page) ∙ h i (a / 4096) g.access acc (g.page ∙ place_page u a)) e)))

-- A space tells the bytes of its pages.
pub shown_tells : (t : Table) (m n : Mem) → shown t m ≡ shown t n → (x : ℕ) → holds t (x / 4096) ≡ true → m.byte x ≡ n.byte x
shown_tells t m n e x h =
    let f = named_some 15 t (x / 4096) h in
    sym (shown_at t m 15 x f.0 f.1) ∙ ap (λ (s : Cells). bytes_of s (f.0 * 4096 + x % 4096)) e ∙ shown_at t n 15 x f.0 f.1

-- Spaces that begin with 0 in the pages that take writes are the same, where the same of their pages take writes and the others hold the same bytes.
abbrev cell_of : Bool → Bool → Bool → ℕ → Cell
cell_of acc tk wr b = record { access = acc; takes = tk; writable = wr; byte = b }

begin_cell : (acc wr k l : Bool) (u v : ℕ) → (acc ≡ true → k ≡ l) → (acc ≡ true → k ≡ false → u ≡ v)
    → cell_of acc (acc && k) (acc && (wr && k)) (cond (acc && k) 0 (cond acc u 0)) ≡ cell_of acc (acc && l) (acc && (wr && l)) (cond (acc && l) 0 (cond acc v 0))
begin_cell false wr k l u v h f = refl
begin_cell true wr true l u v h f = ap (λ z. cell_of true z (wr && z) (cond z 0 v)) (h refl)
begin_cell true wr false l u v h f = ap (λ b. cell_of true false (wr && false) b) (f refl refl) ∙ ap (λ z. cell_of true z (wr && z) (cond z 0 v)) (h refl)

pub begins : (t : Table) (m n : Mem) → Apart t → ((p : ℕ) → holds t p ≡ true → m.takes p ≡ n.takes p)
    → ((x : ℕ) → holds t (x / 4096) ≡ true → m.takes (x / 4096) ≡ false → m.byte x ≡ n.byte x)
    → shown t (back t (λ a. 0) m) ≡ shown t (back t (λ a. 0) n)
unfolding shown
begins t m n once h f = local t (λ a. 0) m once ∙ clipped ∙ sym (local t (λ a. 0) n once)
  where
    clipped : clip (shown t m) (λ a. 0) ≡ clip (shown t n) (λ a. 0)
    clipped = fun_ext (λ a. let e : ℕ = entry_of t (a / 4096) in
        begin_cell (access_in e) (writing_in e) (m.takes (page_of t (a / 4096))) (n.takes (page_of t (a / 4096))) (m.byte (physical t a)) (n.byte (physical t a))
        (λ acc. h (page_of t (a / 4096)) (holds_at t (a / 4096) acc))
        (λ acc q. f (physical t a) (ap (holds t) (place_page t a) ∙ holds_at t (a / 4096) acc) (ap m.takes (place_page t a) ∙ q)))

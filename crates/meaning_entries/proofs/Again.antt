-- Reading and writing undo each other. A text that is read and written again is the same text, so only texts that a writer writes are read (`load_again`); a well-formed index has numbers that can be spelled (`spelled`), and its text gives its head, its rows and their runs back (`write-load`).
use Rattle.meaning_numbers.specs.Order.{within}
use Rattle.meaning_numbers.proofs.Prelude.{◌≡◌, refl, sym, ap, ◌∙◌, subst, true, List, [], ◌∷◌, map, None, Some, ℕ, ◌≤◌, arith, ℤ, nat_abs, take, both, zmach, f-le, z-abs}
use Rattle.meaning_curves.specs.Limits.{end_in, lowest_end}
use Rattle.meaning_rows.specs.{declared.Row.Row, Index.Index, Index.range_row, Build.entry}
use Rattle.meaning_rows.proofs.{Runs.Apart, Judge.GoodRows, Judge.WellFormed, Judge.run_total}
use Rattle.meaning_text.specs.Texts.{index_form, row_form, run_form, say_row, index_said, say_index, index_text}
use Rattle.meaning_text.specs.{Number.Short, Form.Value, Form.Spellable, Form.Each, Form.end, Form.more, Read.Verdict, Read.fine, Read.unfit, Read.read_text}
use Rattle.meaning_text.proofs.Texts.{said-say, said-again, index-again, index_back}
use Rattle.meaning_entries.specs.{Refusal.first_refusal, Refusal.unreadable, Refusal.bad_line, Buffers.IndexBuffers, Load.text_index, Load.load_table, Load.load_refusal}

-- ---- a text that is read

pub text-fine : (t : List ℕ) (v : Value index_form) → read_text index_form t ≡ fine v → text_index t ≡ index_said v
unfolding text_index
text-fine t v e = rw (e, text_index) refl

refused-some : {X : Type 0} {r : ℕ × ℕ} → Some r ≡ None → X
refused-some e = let z : ◌≡◌ {A = ℕ} 0 1 = cc in absurd (omega arith)

-- what is read and written again is the same text
pub load_again : (t : List ℕ) (b : IndexBuffers) → load_refusal t b ≡ None → index_text (text_index t) ≡ t
unfolding load_table first_refusal unreadable bad_line
load_again t b h = by-verdict _ refl
  where
    by-verdict : (x : Verdict (Value index_form)) → read_text index_form t ≡ x → index_text (text_index t) ≡ t
    by-verdict (fine v) e = ap index_text (text-fine t v e) ∙ index-again t v e
    by-verdict (unfit p) e = refused-some (rw (e, bad_line) at h)

-- ---- an index that is written

short-end : (z : ℤ) → end_in z ≡ true → Short z
unfolding within
short-end z e =
    let b = both _ _ e in
    omega (zmach, z-abs z, f-le lowest_end z b.0)

runs-spelled : (n a : ℕ) (l : List (ℕ × ℕ)) → n ≤ 1048576 → Apart n a l → Each (Spellable run_form) (map entry l)
unfolding Apart
runs-spelled n a [] h p = end
runs-spelled n a (x ∷ l) h p = more {x = entry x} (omega (arith, p.1, p.2, h), omega (arith, h)) (runs-spelled n (Prim.Native.Nat.◌+◌ x.1 2) l h p.3)

rows-spelled : (x : Index) (least : ℤ) (first taken : ℕ) (l : List Row) → nat_abs x.windows ≤ 1048576 → GoodRows x least first taken l → Each (Spellable row_form) (map say_row (map (range_row x) l))
unfolding GoodRows
rows-spelled x least first taken [] h g = end
rows-spelled x least first taken (r ∷ l) h g =
    let o = g.0.row in
    more (short-end r.low o.low_end.limited, (short-end r.up o.up-end.limited, subst (Each _) (sym o.good.is) (runs-spelled _ 0 o.good.plain h o.good.apart)))
    (rows-spelled x r.up _ _ l h g.1)

-- the numbers of a well-formed index have at most 18 digits
pub spelled : (x : Index) → WellFormed x → Spellable index_form (say_index x)
unfolding say_index
spelled x h =
    (omega arith, (omega arith, (omega arith, rows-spelled x lowest_end 0 0 x.rows h.head.windows.most h.rows)))

-- what is written and read again
pub record GivesBack (x y : Index) : Type 0 where
  pub window : y.window ≡ x.window
  pub width : y.width ≡ x.width
  pub windows : y.windows ≡ x.windows
  pub rows : y.rows ≡ x.rows
  pub runs : y.runs ≡ take (run_total x.rows) x.runs

pub write-load : (x : Index) → WellFormed x → GivesBack x (text_index (index_text x))
write-load x h =
    let e = text-fine _ _ (index_back x (spelled x h)) in
    let s = said-again x h in
    let f = e ∙ said-say x in
    record {
      window = rw f;
      width = rw f;
      windows = rw f;
      rows = ap (λ y. y.rows) e ∙ s.0;
      runs = ap (λ y. y.runs) e ∙ s.1;
    }

-- Small cases of the definitions, in one table that one proof covers.
use Prim.Native.String.{String}
use Rattle.meaning_numbers.proofs.Table.{holds, same_list}
use Rattle.meaning_numbers.proofs.Prelude.{Bool, false, List, [], ◌∷◌, ℕ, T, eqb}
use Rattle.meaning_text.specs.{Bytes.bytes, Form.Form, Form.spell, Read.fine, Read.unfit, Read.read_text, Read.line_of, Texts.index_form, Texts.series_form, Texts.program_form}
use Rattle.meaning_text.proofs.Open.{open_text}

-- the text is in the form, and spelled again it is the same
reads_back : Form → String → Bool
reads_back f s = elim (read_text f (bytes s)) [ fine v ↦ same_list eqb (spell f v) (bytes s) | unfit p ↦ false ]

-- the text is not in the form, and its first bad line is n
bad_line : Form → String → ℕ → Bool
bad_line f s n = elim (read_text f (bytes s)) [ fine v ↦ false | unfit p ↦ eqb (line_of (bytes s) p) n ]

cases : List Bool
cases =
    reads_back series_form "(series)\n"
    ∷ reads_back series_form "(series 1 -2 0 999999999999999999)\n"
    ∷ bad_line series_form "(series -0)\n" 1
    ∷ bad_line series_form "(series 01)\n" 1
    ∷ bad_line series_form "(series 1000000000000000000)\n" 1
    ∷ bad_line series_form "(series  1)\n" 1
    ∷ bad_line series_form "(series 1)" 1
    ∷ bad_line series_form "(series 1)\n " 2
    ∷ bad_line series_form "" 1
    ∷ reads_back index_form "(index (window 2) (width 2) (windows 4)\n(row 2 4 (0 0))\n(row 4 8 (1 3))\n)\n"
    ∷ reads_back index_form "(index (window -2) (width 2) (windows 4)\n(row 2 4)\n(row 4 8 (-1 0) (3 3))\n)\n"
    ∷ bad_line index_form "(index (window 2) (width 2) (windows 4)\n(row 2 4 (0 0))\n" 3
    ∷ bad_line index_form "(index (window 2) (width 2) (windows 4)\n(row 2 4 (0 0)" 2
    ∷ bad_line index_form "(index (window 2) (width 2) (windows 4)\n(row 2 4\n(0 0))\n)\n" 2
    ∷ bad_line index_form "(index (window 2) (width 2) (windows 4)\n)\n\n" 3
    ∷ reads_back program_form "(window 2)\n(width 2)\n(merge 80)\n(series 1 2 4 3 1)\n(find raw 0 5 10 0 (query 2 4))\n"
    ∷ reads_back program_form "(window 2)\n(width 2)\n(merge 80)\n(series)\n(find normal 0 5 10 0 (query))\n"
    ∷ bad_line program_form "(window 2)\n(width 2)\n(merge 80)\n(series)\n(find norm 0 5 10 0 (query))\n" 5
    ∷ bad_line program_form "(window 2)\n(width 2)\n(merge 80)\n(series)\n(find raw 0 5 10 0 (query))\n\n" 6
    ∷ []

all : T (holds cases)
unfolding open_text cases reads_back bad_line
all = tt

-- Rows of the table of cases at the edges, each a slip that a reader found nothing else to catch.
use Rattle.meaning_numbers.proofs.Prelude.{Bool, List, [], ◌∷◌}
use Rattle.meaning_entries.proofs.Row.{prints, audits, extends}

unfoldable pub edges : List Bool
edges =
    -- a lower end rounded down would admit both
    prints "(window 1)\n(width 1)\n(merge 0)\n(series 3 1)\n(find normal 0 0 11 2 (query 3 4))\n"
    "(index (window 1) (width 1) (windows 2)\n(row 1 2 (1 1))\n(row 3 4 (0 0))\n)\n(found 0 (candidates 0)\n)\n" ∷
    -- v one higher would admit both
    prints "(window 1)\n(width 1)\n(merge 0)\n(series 3 0)\n(find normal 1 0 15 1 (query 0 1))\n"
    "(index (window 1) (width 1) (windows 2)\n(row 0 1 (1 1))\n(row 3 4 (0 0))\n)\n(found 0 (candidates 0)\n)\n" ∷
    -- u too small would admit one
    prints "(window 1)\n(width 1)\n(merge 0)\n(series 0 8)\n(find normal 0 0 10 0 (query 0 10))\n"
    "(index (window 1) (width 1) (windows 2)\n(row 0 1 (0 0))\n(row 8 9 (1 1))\n)\n(found 0 (candidates 0)\n)\n" ∷
    -- runs that touch
    audits "(index (window 1) (width 1) (windows 2)\n(row 0 1 (0 0) (1 1))\n)\n" "(series 0 0)\n" "(refused 20 0)\n" ∷
    -- a run at the window count
    audits "(index (window 1) (width 1) (windows 1)\n(row 0 1 (1 1))\n)\n" "(series 0)\n" "(refused 20 0)\n" ∷
    -- up is no multiple of d
    audits "(index (window 1) (width 2) (windows 1)\n(row 0 1 (0 0))\n)\n" "(series 0)\n" "(refused 20 0)\n" ∷
    -- ranges that overlap
    audits "(index (window 1) (width 1) (windows 2)\n(row 0 2 (0 0))\n(row 1 2 (1 1))\n)\n" "(series 0 1)\n" "(refused 20 1)\n" ∷
    -- more in runs than windows
    audits "(index (window 1) (width 1) (windows 1)\n(row 0 1 (0 0))\n(row 1 2 (0 0))\n)\n" "(series 0)\n" "(refused 20 1)\n" ∷
    -- ends one past their limits
    audits "(index (window 1) (width 1) (windows 1)\n(row -4000001 0 (0 0))\n)\n" "(series 0)\n" "(refused 20 0)\n" ∷
    audits "(index (window 1) (width 1) (windows 1)\n(row 4000000 4000001 (0 0))\n)\n" "(series 0)\n" "(refused 20 0)\n" ∷
    -- and at them
    audits "(index (window 1) (width 1) (windows 1)\n(row -4000000 4000000 (0 0))\n)\n" "(series 0)\n" "(yes)\n" ∷
    -- filed wrongly in the second row
    audits "(index (window 1) (width 1) (windows 2)\n(row 0 1 (0 0))\n(row 1 2 (1 1))\n)\n" "(series 0 0)\n" "(wrong 1 1)\n" ∷
    -- the index text is read first
    audits "\n" "" "(refused 12 1)\n" ∷
    -- new rows below and above an old one
    extends "(index (window 1) (width 1) (windows 1)\n(row 5 6 (0 0))\n)\n(series 5 0 7)\n" "(index (window 1) (width 1) (windows 3)\n(row 0 1 (1 1))\n(row 5 6 (0 0))\n(row 7 8 (2 2))\n)\n" ∷
    -- 100 × 1 is not below 50 × 2
    prints "(window 1)\n(width 1)\n(merge 50)\n(series 0 1)\n(find raw 0 0 10 0 (query 0))\n"
    "(index (window 1) (width 1) (windows 2)\n(row 0 1 (0 0))\n(row 1 2 (1 1))\n)\n(found 1 (candidates 1)\n(at 0 0)\n)\n" ∷
    -- the shift alone rules it out
    prints "(window 1)\n(width 1)\n(merge 0)\n(series 2 4)\n(find normal 0 2 20 1 (query 0 3))\n"
    "(index (window 1) (width 1) (windows 2)\n(row 2 3 (0 0))\n(row 4 5 (1 1))\n)\n(found 0 (candidates 1)\n)\n" ∷
    -- a band on both sides
    prints "(window 3)\n(width 1)\n(merge 0)\n(series 1 0 2 3)\n(find raw 1 100 11 1 (query 2 4 2 -2))\n"
    "(index (window 3) (width 1) (windows 2)\n(row 3 4 (0 0))\n(row 5 6 (1 1))\n)\n(found 1 (candidates 1)\n(at 0 34)\n)\n" ∷
    -- a query longer than the series
    prints "(window 1)\n(width 1)\n(merge 0)\n(series 2)\n(find raw 0 0 10 0 (query 2 2))\n"
    "(refused 6 0)\n" ∷
    -- width before merge
    prints "(window 1)\n(width 0)\n(merge 101)\n(series 2)\n(find raw 0 0 10 0 (query 2))\n"
    "(refused 4 0)\n" ∷
    -- a band of m
    prints "(window 1)\n(width 1)\n(merge 0)\n(series 0)\n(find raw 1 0 10 0 (query 0))\n"
    "(refused 8 0)\n" ∷
    -- a threshold one past its limit
    prints "(window 1)\n(width 1)\n(merge 0)\n(series 0)\n(find raw 0 1000000000001 10 0 (query 0))\n"
    "(refused 9 0)\n" ∷
    -- and at it
    prints "(window 1)\n(width 1)\n(merge 0)\n(series 0)\n(find raw 0 1000000000000 10 0 (query 0))\n"
    "(index (window 1) (width 1) (windows 1)\n(row 0 1 (0 0))\n)\n(found 1 (candidates 1)\n(at 0 0)\n)\n" ∷
    -- a shift below 0 and one past its limit
    prints "(window 1)\n(width 1)\n(merge 0)\n(series 0)\n(find raw 0 0 10 -1 (query 0))\n"
    "(refused 10 0)\n" ∷
    prints "(window 1)\n(width 1)\n(merge 0)\n(series 0)\n(find raw 0 0 10 20001 (query 0))\n"
    "(refused 10 0)\n" ∷
    -- a run that begins below 0
    audits "(index (window 2) (width 2) (windows 4)\n(row 2 4 (-1 0))\n(row 4 8 (1 3))\n)\n" "(series 1 2 4 3 1)\n" "(refused 20 0)\n" ∷
    -- a row without runs: an unreadable series line and a bad value come first
    audits "(index (window 2) (width 2) (windows 4)\n(row 2 4)\n)\n" "(series 1 2 4 3 1)" "(refused 12 4)\n" ∷
    audits "(index (window 2) (width 2) (windows 4)\n(row 2 4)\n)\n" "(series 1 10001 4 3 1)\n" "(refused 2 1)\n" ∷
    -- two offsets filed wrongly: the first is told
    audits "(index (window 1) (width 1) (windows 3)\n(row 0 1 (0 1))\n(row 1 2 (2 2))\n)\n" "(series 0 5 5)\n" "(wrong 0 1)\n" ∷
    -- normalised values one hundredth apart: E = 1 admits, E = 0 does not
    prints "(window 3)\n(width 1)\n(merge 0)\n(series 0 1 12)\n(find normal 0 1 100 1 (query 0 1 13))\n"
    "(index (window 3) (width 1) (windows 1)\n(row 13 14 (0 0))\n)\n(found 1 (candidates 1)\n(at 0 1)\n)\n" ∷
    prints "(window 3)\n(width 1)\n(merge 0)\n(series 0 1 12)\n(find normal 0 0 100 1 (query 0 1 13))\n"
    "(index (window 3) (width 1) (windows 1)\n(row 13 14 (0 0))\n)\n(found 0 (candidates 1)\n)\n" ∷
    -- the low end of a normalised range, with X one lower, would admit one
    prints "(window 1)\n(width 1)\n(merge 0)\n(series 0 1 3)\n(find normal 0 5 13 0 (query 0 1 4))\n"
    "(index (window 1) (width 1) (windows 3)\n(row 0 1 (0 0))\n(row 1 2 (1 1))\n(row 3 4 (2 2))\n)\n(found 0 (candidates 0)\n)\n" ∷
    -- and one lower itself
    prints "(window 1)\n(width 1)\n(merge 0)\n(series -1 1)\n(find normal 0 0 10 0 (query 0 1))\n"
    "(index (window 1) (width 1) (windows 2)\n(row -1 0 (0 0))\n(row 1 2 (1 1))\n)\n(found 0 (candidates 0)\n)\n" ∷
    []

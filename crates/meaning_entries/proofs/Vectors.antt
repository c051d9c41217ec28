-- Cases from files: made by tests/make_cases.py from tests/vectors, and not edited by hand.
use Rattle.meaning_numbers.proofs.Prelude.{Bool, List, [], ◌∷◌}
use Rattle.meaning_entries.proofs.Row.{prints, audits, extends}

unfoldable pub vectors : List Bool
vectors =
    -- table/00
    prints "(window 2)\n(width 2)\n(merge 80)\n(series 1 2 4 3 1)\n(find raw 0 5 10 0 (query 2 4))\n" "(index (window 2) (width 2) (windows 4)\n(row 2 4 (0 0))\n(row 4 8 (1 3))\n)\n(found 3 (candidates 4)\n(at 0 5)\n(at 1 0)\n(at 2 5)\n)\n" ∷
    -- table/01
    prints "(window 2)\n(width 2)\n(merge 80)\n(series 1 2 4 3 1)\n(find raw 0 4 10 0 (query 2 4))\n" "(index (window 2) (width 2) (windows 4)\n(row 2 4 (0 0))\n(row 4 8 (1 3))\n)\n(found 1 (candidates 3)\n(at 1 0)\n)\n" ∷
    -- table/02
    prints "(window 2)\n(width 2)\n(merge 80)\n(series 1 2 4 3 1)\n(find raw 0 0 10 0 (query 4 3))\n" "(index (window 2) (width 2) (windows 4)\n(row 2 4 (0 0))\n(row 4 8 (1 3))\n)\n(found 1 (candidates 3)\n(at 2 0)\n)\n" ∷
    -- table/03
    prints "(window 2)\n(width 2)\n(merge 80)\n(series -1 0 0)\n(find raw 0 0 10 0 (query -1 0))\n" "(index (window 2) (width 2) (windows 2)\n(row -2 2 (0 1))\n)\n(found 1 (candidates 2)\n(at 0 0)\n)\n" ∷
    -- table/04
    prints "(window 1)\n(width 2)\n(merge 80)\n(series 0 1 1)\n(find raw 0 0 10 0 (query 0 0 1))\n" "(index (window 1) (width 2) (windows 3)\n(row 0 2 (0 2))\n)\n(found 0 (candidates 1)\n)\n" ∷
    -- table/05
    prints "(window 2)\n(width 2)\n(merge 80)\n(series 0 2 0 3)\n(find normal 0 0 20 1 (query 0 1))\n" "(index (window 2) (width 2) (windows 3)\n(row 2 4 (0 2))\n)\n(found 1 (candidates 3)\n(at 0 0)\n)\n" ∷
    -- table/06
    prints "(window 2)\n(width 2)\n(merge 80)\n(series 0 2 0 3)\n(find normal 0 0 9 1 (query 0 1))\n" "(refused 10 0)\n" ∷
    -- table/07
    prints "(window 2)\n(width 2)\n(merge 80)\n(series 0 2 0 3)\n(find normal 0 0 10 1 (query 0 1))\n" "(index (window 2) (width 2) (windows 3)\n(row 2 4 (0 2))\n)\n(found 0 (candidates 3)\n)\n" ∷
    -- table/08
    prints "(window 2)\n(width 2)\n(merge 80)\n(series 1 2 4 3 1)\n(find normal 0 5 10 0 (query 5 5))\n" "(refused 11 0)\n" ∷
    -- table/09
    prints "(window 2)\n(width 2)\n(merge 80)\n(series 1 2 4 3 1)\n(find raw 0 0 10 0 (query 5 5))\n" "(index (window 2) (width 2) (windows 4)\n(row 2 4 (0 0))\n(row 4 8 (1 3))\n)\n(found 0 (candidates 0)\n)\n" ∷
    -- table/10
    prints "(window 256)\n(width 2)\n(merge 80)\n(series 1 2 4 3 1)\n(find raw 0 5 10 0 (query 2 4))\n" "(refused 3 0)\n" ∷
    -- table/11
    prints "(window 3)\n(width 2)\n(merge 80)\n(series 1 2 4 3 1)\n(find raw 0 5 10 0 (query 2 4))\n" "(refused 7 0)\n" ∷
    -- table/12
    prints "(window 2)\n(width 2)\n(merge 80)\n(series)\n(find raw 0 5 10 0 (query 2 4))\n" "(refused 1 0)\n" ∷
    -- table/13
    prints "(window 2)\n(width 2)\n(merge 80)\n(series 1 2 4 3 1)\n(find raw 0 5 10 0 (query))\n" "(refused 6 0)\n" ∷
    -- table/14
    prints "" "(refused 12 1)\n" ∷
    -- table/15
    prints "\n" "(refused 12 1)\n" ∷
    -- table/16
    prints "(" "(refused 12 1)\n" ∷
    -- table/17
    prints "(window 2)\n" "(refused 12 2)\n" ∷
    -- table/18
    prints "(window 2)\n(width 2)\n(merge 80)\n(series 1 2 4 3 1)\n(find raw 0 5 10 0 (query 2 4))" "(refused 12 5)\n" ∷
    -- table/19
    prints "(window 2)\n(width 2)\n(merge 80)\n(series 1 2 4 3 1)\n(find raw 0 5 10 0 (query 2 4))\n\n" "(refused 12 6)\n" ∷
    -- table/20
    prints "(window 2)\n(width 2)\n(merge 80)\n(series  1 2 4 3 1)\n(find raw 0 5 10 0 (query 2 4))\n" "(refused 12 4)\n" ∷
    -- table/21
    prints "(window 2)\n(width 2)\n(merge 80)\n(series )\n(find raw 0 5 10 0 (query 2 4))\n" "(refused 12 4)\n" ∷
    -- table/22
    prints "(window 2)\n(width 2)\n(merge 080)\n(series 1 2 4 3 1)\n(find raw 0 5 10 0 (query 2 4))\n" "(refused 12 3)\n" ∷
    -- table/23
    prints "(window 2)\n(width 2)\n(merge -0)\n(series 1 2 4 3 1)\n(find raw 0 5 10 0 (query 2 4))\n" "(refused 12 3)\n" ∷
    -- table/24
    prints "(window 2)\n(width 2)\n(merge 80)\n(series 1 2 4 3 1)\n(find raw 0 5 10 0 (query 2 * 4))\n" "(refused 12 5)\n" ∷
    -- table/25
    prints "(window 3)\n(width 2)\n(merge 50)\n(series 1 5 2 8 3 3 1 4)\n(find normal 1 40 20 3 (query 1 6 2 10001))\n" "(refused 2 3)\n" ∷
    -- table/26
    prints "(window 3)\n(width -2)\n(merge 50)\n(series 1 5 2 8 3 3 1000000 4)\n(find normal 1 40 20 3 (query 1 6 -10001 7))\n" "(refused 2 6)\n" ∷
    -- table/27
    prints "(window 3)\n(width 2)\n(merge -1)\n(series 1 1000000 2 8 3 3 1 4)\n(find normal 1 40 20 3 (query 10001 6 2 7))\n" "(refused 2 1)\n" ∷
    -- table/28
    prints "(window 3)\n(width 2)\n(merge 50)\n(series 1 5 2 8 1000000 3 1 4)\n(find normal 5 40 20 3 (query 1 6 2 7))\n" "(refused 2 4)\n" ∷
    -- table/29
    prints "(window 3)\n(width 1000001)\n(merge 50)\n(series 1 5 2 8 3 3 1 4)\n(find normal 1 40 20 3 (query 1 6 2 7))\n" "(refused 4 0)\n" ∷
    -- table/30
    prints "(window 3)\n(width 2)\n(merge -1)\n(series 1 5 2 8 3 3 1 4)\n(find normal 1 40 20 3 (query 1 6 2 7))\n" "(refused 5 0)\n" ∷
    -- table/31
    prints "(window 3)\n(width 2)\n(merge 50)\n(series 1 5 2 8 3 3 1 4)\n(find normal 5 40 20 3 (query 1 6 2 7))\n" "(refused 8 0)\n" ∷
    -- table/32
    prints "(window 3)\n(width 2)\n(merge 50)\n(series 1 5 2 8 3 3 1 4)\n(find normal 1 -1 20 3 (query 1 6 2 7))\n" "(refused 9 0)\n" ∷
    -- table/33
    prints "(window 1)\n(width 1000001)\n(merge 34)\n(series -6 -6)\n(find normal 0 1 30 17515 (query -6))" "(refused 12 5)\n" ∷
    -- table/34
    prints "(window 2)\n(width 16)\n(merge 0)\n(series 0 3 5 5 5 5 -3 3 1 -3 3 10000)\n(find raw 0 100 60 1 (query -3 3))\n" "(index (window 2) (width 16) (windows 11)\n(row -16 0 (8 8))\n(row 0 16 (0 7) (9 9))\n(row 10000 10016 (10 10))\n)\n(found 10 (candidates 10)\n(at 0 9)\n(at 1 40)\n(at 2 68)\n(at 3 68)\n(at 4 68)\n(at 5 100)\n(at 6 0)\n(at 7 40)\n(at 8 52)\n(at 9 0)\n)\n" ∷
    -- table/35
    prints "(window 1)\n(width 1)\n(merge 100)\n(series -2)\n(find raw 0 0 99 0 (query -2))\n" "(index (window 1) (width 1) (windows 1)\n(row -2 -1 (0 0))\n)\n(found 1 (candidates 1)\n(at 0 0)\n)\n" ∷
    -- table/36
    prints "(window 1)\n(width 4)\n(merge 50)\n(series 0 1 2 3 4 5 0 1 2 3 4 5)\n(find normal 4 39 30 100 (query 0 1 2 3 4))\n" "(index (window 1) (width 4) (windows 12)\n(row 0 8 (0 11))\n)\n(found 4 (candidates 8)\n(at 0 0)\n(at 1 0)\n(at 6 0)\n(at 7 0)\n)\n" ∷
    -- table/37
    prints "(window 2)\n(width 16)\n(merge 1)\n(series -6 -3)\n(find normal 0 80000 30 10 (query -40 -41))\n" "(index (window 2) (width 16) (windows 1)\n(row -16 0 (0 0))\n)\n(found 0 (candidates 0)\n)\n" ∷
    -- table/38
    prints "(window 1)\n(width 2)\n(merge 7)\n(series 10000 -9999 9999 0 0)\n(find raw 2 1 49 1 (query 0 3 6))\n" "(index (window 1) (width 2) (windows 5)\n(row -10000 -9998 (1 1))\n(row 0 2 (3 4))\n(row 9998 10000 (2 2))\n(row 10000 10002 (0 0))\n)\n(found 0 (candidates 0)\n)\n" ∷
    -- table/39
    prints "(window 2)\n(width 4)\n(merge 51)\n(series 0 0)\n(find normal 0 100 100 8311 (query 1 3))\n" "(index (window 2) (width 4) (windows 1)\n(row 0 4 (0 0))\n)\n(found 0 (candidates 1)\n)\n" ∷
    -- table/40
    prints "(window 1)\n(width 2)\n(merge 0)\n(series 10000 10000 10000 10000 10000 " "(refused 12 4)\n" ∷
    -- table/41
    prints "(window 1)\n(width 1)(merge 67)\n\n(series 1 2 3 3 0 2 0 1 0 2 3 2 1 3)\n(find normal 0 5 99 1 (query 2))\n" "(refused 12 2)\n" ∷
    -- table/42
    prints "(window 1)\n(width 100)\n(merge 80)\n(series 0 1 3 0 0)\n(find normal 2 0 15 18720 (query -1 2 3 0 1))\n" "(index (window 1) (width 100) (windows 5)\n(row 0 100 (0 4))\n)\n(found 0 (candidates 1)\n)\n" ∷
    -- table/43
    prints "(window 1)\n(width 10)\n(merge 75)\n(series -9 26)\n(find raw 0 3 75 0 (query -7))\n" "(index (window 1) (width 10) (windows 2)\n(row -10 30 (0 1))\n)\n(found 0 (candidates 2)\n)\n" ∷
    -- table/44
    prints "(window 1)\n(width 100)\n(merge 66)\n(series 2 1 0 0 2 0 1 0 0 0 -1 0)\n(find normal 1 80000 99 1 (query 0 1))\n" "(index (window 1) (width 100) (windows 12)\n(row -100 100 (0 11))\n)\n(found 8 (candidates 11)\n(at 0 80000)\n(at 1 80000)\n(at 3 0)\n(at 4 80000)\n(at 5 0)\n(at 6 80000)\n(at 9 80000)\n(at 10 0)\n)\n" ∷
    -- table/45
    prints "(window 3)\n(width 5)\n(merge 50)\n(series -7 -7 -6 -7)\n(find normal 0 0 15 100 (query -7 -7 -6))\n" "(index (window 3) (width 5) (windows 2)\n(row -20 -15 (0 1))\n)\n(found 1 (candidates 2)\n(at 0 0)\n)\n" ∷
    -- table/46
    prints "(window 2)\n(width 100)\n(merge 51)\n(series 2 3 3 2 2 0 3 1)\n(find normal 1 0 99 100 (query 1 2))\n" "(index (window 2) (width 100) (windows 7)\n(row 0 100 (0 6))\n)\n(found 2 (candidates 7)\n(at 0 0)\n(at 5 0)\n)\n" ∷
    -- table/47
    prints "(window 2)\n(width 1000)\n(series -2 2 0)\n(find normal 2 39850 40 1 (query 2828 8322 -8154))\n" "(refused 12 3)\n" ∷
    -- table/48
    prints "(window 2)\n(width 1)\n(merge 99)\n(series 13 14 15 14)\n(find normal 2 0 10 10910 (query 2 3 2))\n" "(index (window 2) (width 1) (windows 3)\n(row 27 30 (0 2))\n)\n(found 1 (candidates 2)\n(at 1 0)\n)\n" ∷
    -- table/49
    prints "(window 1)\n(width 12345)\n(merge 75)\n(series 0 3)\n(find normal 0 0 99 100 (query 10001))\n" "(refused 2 0)\n" ∷
    -- table/50
    prints "(window 1)\n(widt0x1h 3)\n(merge 33)\n(series 3 32 66 36 46 24)\n(find raw 1 1000000 15 0 (query 32 66 36 46 24))\n" "(refused 12 2)\n" ∷
    -- table/51
    prints "(window 1)\n(width 4)\n(merge 100)\n(series 0 2 2 1 2 -2 0)\n(find raw 2 1000000 20 0 (query 9 7 2))\n" "(index (window 1) (width 4) (windows 7)\n(row -4 4 (0 6))\n)\n(found 5 (candidates 5)\n(at 0 106)\n(at 1 75)\n(at 2 75)\n(at 3 105)\n(at 4 94)\n)\n" ∷
    -- table/52
    prints "(window 2)\n(width 1000000)\n(merge 51)\n(series -1 4 4 4)\n(find normal 1 1000000000 20 0 (query -1 4))\n" "(index (window 2) (width 1000000) (windows 3)\n(row 0 1000000 (0 2))\n)\n(found 1 (candidates 3)\n(at 0 0)\n)\n" ∷
    -- table/53
    prints "(window 1)\n(width 4)\n(merge 50)\n(series 3 2 0 3)\n(find raw 0 0 20 0 (query 3))\n" "(index (window 1) (width 4) (windows 4)\n(row 0 4 (0 3))\n)\n(found 2 (candidates 4)\n(at 0 0)\n(at 3 0)\n)\n" ∷
    -- table/54
    prints "(window 1)\n(width 1000000)\n(merge 67)\n(series -6 -4)\n(find raw 0 1000000000 99 1 (query -6))\n" "(index (window 1) (width 1000000) (windows 2)\n(row -1000000 0 (0 1))\n)\n(found 2 (candidates 2)\n(at 0 0)\n(at 1 4)\n)\n" ∷
    -- table/55
    prints "(window 1)\n(width 7)\n(merge 100)\n(series 7 6 -5)\n(find raw 0 100 11 5 (query 7))\n" "(index (window 1) (width 7) (windows 3)\n(row -7 14 (0 2))\n)\n(found 2 (candidates 3)\n(at 0 0)\n(at 1 1)\n)\n" ∷
    -- table/56
    prints "(window 3)\n(width 3)\n(merge 0)\n(series 5 5 6 5 5 5 5 5 4 4 5 4 5 6)\n(find raw 0 90 15 0 (query -1 -2 0))\n" "(index (window 3) (width 3) (windows 12)\n(row 12 15 (6 10))\n(row 15 18 (0 5) (11 11))\n)\n(found 3 (candidates 5)\n(at 7 88)\n(at 8 86)\n(at 9 90)\n)\n" ∷
    -- table/57
    prints "(window 1)\n(width 10)\n(merge 80)\n(series 7 7 7 -9 -9 3 1 1 -9 -9)\n(find raw 1 257 99 10 (query -9 6))\n" "(index (window 1) (width 10) (windows 10)\n(row -10 10 (0 9))\n)\n(found 7 (candidates 9)\n(at 0 257)\n(at 1 257)\n(at 3 225)\n(at 4 9)\n(at 5 169)\n(at 6 125)\n(at 8 225)\n)\n" ∷
    -- table/58
    prints "(window 2)\n(width 2)\n(merge 33)\n(series 0 1 2)\n(find raw 1 2 73 2 (query 0 2))\n" "(index (window 2) (width 2) (windows 2)\n(row 0 2 (0 0))\n(row 2 4 (1 1))\n)\n(found 2 (candidates 2)\n(at 0 1)\n(at 1 1)\n)\n" ∷
    -- table/59
    prints "(window 1)\n(width 5)\n(merge 34)\n(series 3 3 4 8 -3 -3 -3 10 -4 -4)\n(find raw 1 41 11 11406 (query 0 3))\n" "(index (window 1) (width 5) (windows 10)\n(row -5 0 (4 6) (8 9))\n(row 0 5 (0 2))\n(row 5 10 (3 3))\n(row 10 15 (7 7))\n)\n(found 3 (candidates 7)\n(at 0 9)\n(at 1 10)\n(at 2 41)\n)\n" ∷
    -- audit/000
    audits "" "" "(refused 12 1)\n" ∷
    -- audit/002
    audits "(index (window 2) (width 2) (windows 4)\n(row 2 4 (0 0))\n(row 4 8 (1 3))\n)\n" "" "(refused 12 5)\n" ∷
    -- audit/007
    audits "(index (window 2) (width 2) (windows 4)\n(row 2 4)\n(row 4 8 (1 3))\n)\n" "(series 1 2 4 3 1)\n" "(refused 20 0)\n" ∷
    -- audit/010
    audits "(index (window 2) (width 2) (windows 4)\n)\n" "(series)\n" "(refused 1 0)\n" ∷
    -- audit/020
    audits "(index (window 1) (width 10) (windows 3)\n(row -10 3815320 (0 2))\n)" "(series)\n" "(refused 12 3)\n" ∷
    -- audit/027
    audits "(index (window 1) (width 2) (windo " "(series 2 3 3)\n" "(refused 12 1)\n" ∷
    -- audit/035
    audits "(index (window 1) (width 3) (windows 3)\n(row 6 1671213 (0 2))\n)\n" "(series 7 7 7)\n" "(yes)\n" ∷
    -- audit/036
    audits "(index (window 1) (width 5) (windows 4)\n(row 30 40 (0 4))\n)\n" "(series 37 37 36 36 37)\n" "(refused 20 0)\n" ∷
    -- audit/037
    audits "(index (window 1) (width 2) (windows 1)\n(row -10 -8 (0 0))\n)\n" "(series -9999 0 3 1 3 3)\n" "(refused 21 0)\n" ∷
    -- audit/040
    audits "(index (window 2) (width 1) (windows 1)\n(row 2 1 (0 0))\n)\n" "(series 0 1)\n" "(refused 20 0)\n" ∷
    -- audit/041
    audits "(index (window 1) (width 1000) (windows 1)\n(row 4000000 0 (0 0))\n)\n" "(series -9)\n" "(refused 20 0)\n" ∷
    -- audit/045
    audits "(index (window 1) (width 0) (windows 2)\n(row -10 -5 (0 1))\n)\n" "(series)\n" "(refused 1 0)\n" ∷
    -- audit/051
    audits "(index (window 1) (width 5) (windows 1)\n)\n" "(series -10000)\n" "(missing 1)\n" ∷
    -- audit/055
    audits "(index (window 2) (width 1000) (windows 1)\n(row 0 1000 (0 0))\n)\n" "(series 5)\n" "(refused 22 0)\n" ∷
    -- audit/057
    audits "(index (window 1) (width 1) (windows 2)\n(row 2 3 (0 0))\n)\n" "(series 2)\n" "(refused 22 0)\n" ∷
    -- audit/066
    audits "(index (window 2) (width 100) (windows 8)\n)\n" "(series 0 1 2 0 1 2 0 1 7 8)\n" "(refused 21 0)\n" ∷
    -- audit/069
    audits "(index (window 1) (width 4) (windows 1)\n)\n" "(series -32)\n" "(missing 1)\n" ∷
    -- audit/071
    audits "(index (window 1) (width 1) (windows 1)\n(row -1 945392 (0 0))\n)\n" "(series)\n" "(refused 1 0)\n" ∷
    -- audit/084
    audits "(index (window 8) (width 5) (windows 1)\n(row 10 20 (0 0))\n)\n" "(series -5 -5 0 5 5 5 5 2 0)\n" "(refused 21 0)\n" ∷
    -- audit/088
    audits "(index (window 2) (width 3) (windows 2)\n)\n" "(series 0 6 0)\n" "(missing 2)\n" ∷
    -- audit/091
    audits "(index (window 1) (width 2) (windows 2)\n(row -26 -22 (0 1))\n)\n" "(series)\n" "(refused 1 0)\n" ∷
    -- audit/098
    audits "(index (window 2) (width 2) (windows 2)\n)\n" "(series 0 0 0)\n" "(missing 2)\n" ∷
    -- audit/100
    audits "(index (window 1) (width 1) (windows 1)\n(row -2 -1 (0 0))\n)\n" "(series -1)\n" "(wrong 0 0)\n" ∷
    -- audit/125
    audits "(index (window 1) (width 3) (windows 2)\n(row 0 3 (0 1))\n)\n" "(series 1 4)\n" "(wrong 0 1)\n" ∷
    -- audit/167
    audits "(index (window 1) (width 1) (windows 3)\n(row 0 5 (0 2))\n)\n" "(series 0 3 6)\n" "(wrong 0 2)\n" ∷
    -- audit/177
    audits "(index (window 1) (width 10) (windows 3)\n(row -10 0 (0 2))\n)\n" "(series -2 -2 0)\n" "(wrong 0 2)\n" ∷
    -- audit/191
    audits "(index (window 1) (width 1000) (windows 2)\n(row -1000 1000 (0 1))\n)\n" "(series -10001 -4)\n" "(refused 2 0)\n" ∷
    -- audit/206
    audits "(index (window 1) (width 3) (windows 1)\n(row 9999 3949143 (0 0))\n)\n" "(series 10003)\n" "(refused 2 0)\n" ∷
    -- audit/210
    audits "(index (window 1) (width 4) (windows 8)\n(row 0 4 (0 7))\n)\n" "(series 0 0 0 0 0 0 0 -10001)\n" "(refused 2 7)\n" ∷
    -- audit/225
    audits "(index (window 1) (width 1) (windows 1)\n(row 3 4 (0 0))\n)\n" "(series 10001)\n" "(refused 2 0)\n" ∷
    -- extend/001
    extends "(index (window 1) (width 2) (windows 2)\n)\n(series 3 3 3 3 3)\n" "(index (window 1) (width 2) (windows 5)\n(row 2 4 (2 4))\n)\n" ∷
    -- extend/011
    extends "(index (window 1) (width 1000000) (windows 1)\n(row 2 4 (0 0))\n)\n(series 3 3 3 3 2)\n" "(refused 20 0)\n" ∷
    -- extend/013
    extends "(index (window 1) (width 7) (windows 1)\n(row 0 7 (0 0))\n)\n(series 1 1)\n" "(index (window 1) (width 7) (windows 2)\n(row 0 7 (0 1))\n)\n" ∷
    -- extend/015
    extends "(index (window 1) (width 2) (windows 1)\n(row 0 922337203685477580 (0 0))\n)\n(series 1 2)\n" "(refused 20 0)\n" ∷
    -- extend/033
    extends "(index (window 2) (width 10) (windows 1)\n(row 0 10 (2 0))\n)\n(series 3 2 1 1 3)\n" "(refused 20 0)\n" ∷
    -- extend/041
    extends "(index (window 1) (width 10) (windows 1)\n(row 0 10 (0 0))\n)\n(series 10001)\n" "(refused 2 0)\n" ∷
    -- extend/057
    extends "(index (window 2) (width 1) (windows 1)\n(row 5 6 (0 0))\n)\n(series 2 3)\n" "(index (window 2) (width 1) (windows 1)\n(row 5 6 (0 0))\n)\n" ∷
    -- extend/061
    extends "(index (window 5) (width 1000) (windows 78)\n(row 0 1000 (0 77))\n)\n(series 2 1 1 1 3 2 0 3 0 1 3)\n" "(refused 22 0)\n" ∷
    -- extend/064
    extends "(index (window 3) (width 1) (windows 16)\n(row -8495 -7058 (4 4) (6 6))\n(row -3370 -3369 (1 1))\n(row -3366 -3365 (8 8))\n(row -3167 -3166 (2 2))\n(row -3019 -914 (3 3) (11 11))\n(row -697 2440 (0 0) (5 5) (7 7) (9 9) (12 12))\n(row 6089 6091 (10 10))\n(row 6884 14377 (13 13) (15 15))\n(row 19642 652882 (14 14))\n)\n(series 1507 -4182 5114 -4302)\n" "(refused 22 0)\n" ∷
    -- extend/069
    extends "(index (window 3) (width 1000) (windows 1)\n(row -30000 -29000 (0 0))\n)\n(series -10000 -10000)\n" "(refused 22 0)\n" ∷
    -- extend/073
    extends "(index (window 1) (width 10) (windows 4)\n(row -10 0 (0 3))\n)\n(series -7 -7 -7 -7 -10001)\n" "(refused 2 4)\n" ∷
    -- extend/089
    extends "(index (window 1) (width 1) (windows 1)\n)\n(series 1 0)\n" "(index (window 1) (width 1) (windows 2)\n(row 0 1 (1 1))\n)\n" ∷
    -- extend/090
    extends "(index (window 1) (width 5) (windows 1)\n(row 0 5 (0 0))\n)\n(series 3)\n" "(index (window 1) (width 5) (windows 1)\n(row 0 5 (0 0))\n)\n" ∷
    -- extend/100
    extends "(index (window 1) (width -1000) (windows 1)\n(row -2000 1000 (0 0))\n)\n(series 1 2 3)\n" "(refused 20 0)\n" ∷
    -- extend/109
    extends "(index (window 3) (width 2) (windows 1)\n(row 0 2)\n)\n(series 0 0 0 0 0)\n" "(refused 20 0)\n" ∷
    -- extend/113
    extends "(index (window 1) (width 999999) (windows 1)\n)\n(series -5)\n" "(index (window 1) (width 999999) (windows 1)\n)\n" ∷
    -- extend/115
    extends "(index (window 5) (width 12345) (windows 15)\n(row -12345 0 (0 14))\n)\n(series -5 -3 -2 -2 -4 -9 -3 100000000000000000 -3 -2 -9 -3 -5 -5 -6 -3 -4 -5 -6 -8 -1)\n" "(refused 2 7)\n" ∷
    -- extend/125
    extends "(index (window 1) (width 2) (windows 13)\n(row 0 10 (0 12))\n)\n(series 7 7 7 7 7 7 100000000000000000 7 7 7 7 7 8)\n" "(refused 2 6)\n" ∷
    -- extend/132
    extends "(index (window 1) (width 1000000) (windows -1)\n(row -1000000 1000000 (0 1))\n)\n(series -7 100000000000000000)\n" "(refused 2 1)\n" ∷
    -- extend/133
    extends "(index (window 1) (width 100) (windows 3)\n(row 0 100 (0 2))\n)\n(series 5 5 100000000000000000 5 -2)\n" "(refused 2 2)\n" ∷
    -- extend/142
    extends "(index (window 1) (width 1) (windows 1)\n)\n(series -49)\n" "(index (window 1) (width 1) (windows 1)\n)\n" ∷
    -- extend/147
    extends "(index (window 2) (width 7) (windows 4)\n(row 0 14 (0 3))\n(row 0 14 (0 3))\n)\n(series 0 1 2 3 4)\n" "(refused 20 1)\n" ∷
    -- extend/182
    extends "(index (window 2) (width 4) (windows 6)\n(row 0 8 (0 5))\n)\n(series 3 2 0 2 1 2 1 3 10001 2 1 3 0)\n" "(refused 2 8)\n" ∷
    -- extend/195
    extends "(index (window 1) (width 10) (windows 1)\n(row -10 0)\n(row 0 10 (0 0))\n)\n(series 0)\n" "(refused 20 0)\n" ∷
    []

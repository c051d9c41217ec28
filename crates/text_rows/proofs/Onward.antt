-- A reader of a text that stands where a line ended: it can be read on, and gives the next line.
use denote.Ref.{Bor}
use Rattle.meaning_numbers.proofs.Prelude.{ℕ, length, List, ◌≡◌}
use Rattle.text_reader.specs.declared.Reader.{Reader}
use Rattle.text_rows.specs.{declared.Line.Line, Line.line_end, Line.row_from, Line.next_line, Line.Ready}

module _ (text : Bor (List ℕ)) (p : Line) (r : Reader) (here : (r.text ≡ text) × (r.at ≡ p.at)) where
  pub ready_on : Ready (length text.now) p → Ready (length (r.text).now) (line_end p.state r.at p.tally)
  ready_on k = rw (here.0, here.1) (record { good = k.good; fits = k.fits; inside = k.inside })

  pub line_on : {n : Line} → n ≡ row_from (r.text).now r.at p.state p.tally → n ≡ next_line text.now p
  unfolding next_line
  line_on e = rw (here.0, here.1) at e

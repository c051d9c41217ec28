-- The automaton of the lines follows `series_form` and `program_form`, each from its own start: each state with what has been said so far has a reader for the rest of the text, and a byte takes it to the next. So the bytes of a text come to what `read_text` says.
use Rattle.std.specs.Prelude.{ℕ, ℤ, pos, Bool, true, false, List, [], ◌∷◌, ◌++◌}
use Rattle.std.specs.declared.option.Option.{Option}
use Rattle.std.specs.Prelude.{None, Some}
use Rattle.meaning_text.specs.{Form.Value, Texts.series_form, Texts.program_form}
use Rattle.text_lines.specs.{declared.Word.Word, declared.Field.Field, declared.State.State, declared.Moved.Moved, Step.line_step}

-- ---- what has been said

pub record Said : Type 0 where
  pub window : ℤ
  pub width : ℤ
  pub merge : ℤ
  pub series : List ℤ
  pub raw : Bool
  pub band : ℤ
  pub threshold : ℤ
  pub scale : ℤ
  pub shift : ℤ
  pub query : List ℤ

abbrev pub nothing_said : Said
nothing_said = record { window = pos 0; width = pos 0; merge = pos 0; series = []; raw = true; band = pos 0; threshold = pos 0; scale = pos 0; shift = pos 0; query = [] }

-- more values
abbrev pub series_more : Said → List ℤ → Said
series_more g l = record { window = g.window; width = g.width; merge = g.merge; series = g.series ++ l; raw = g.raw; band = g.band; threshold = g.threshold; scale = g.scale; shift = g.shift; query = g.query }

abbrev pub query_more : Said → List ℤ → Said
query_more g l = record { window = g.window; width = g.width; merge = g.merge; series = g.series; raw = g.raw; band = g.band; threshold = g.threshold; scale = g.scale; shift = g.shift; query = g.query ++ l }

-- a number
abbrev pub told : Field → ℤ → Said → Said
told Field.Window z g = record { window = z; width = g.width; merge = g.merge; series = g.series; raw = g.raw; band = g.band; threshold = g.threshold; scale = g.scale; shift = g.shift; query = g.query }
told Field.Width z g = record { window = g.window; width = z; merge = g.merge; series = g.series; raw = g.raw; band = g.band; threshold = g.threshold; scale = g.scale; shift = g.shift; query = g.query }
told Field.Merge z g = record { window = g.window; width = g.width; merge = z; series = g.series; raw = g.raw; band = g.band; threshold = g.threshold; scale = g.scale; shift = g.shift; query = g.query }
told Field.Item z g = series_more g (z ∷ [])
told Field.Band z g = record { window = g.window; width = g.width; merge = g.merge; series = g.series; raw = g.raw; band = z; threshold = g.threshold; scale = g.scale; shift = g.shift; query = g.query }
told Field.Threshold z g = record { window = g.window; width = g.width; merge = g.merge; series = g.series; raw = g.raw; band = g.band; threshold = z; scale = g.scale; shift = g.shift; query = g.query }
told Field.Scale z g = record { window = g.window; width = g.width; merge = g.merge; series = g.series; raw = g.raw; band = g.band; threshold = g.threshold; scale = z; shift = g.shift; query = g.query }
told Field.Shift z g = record { window = g.window; width = g.width; merge = g.merge; series = g.series; raw = g.raw; band = g.band; threshold = g.threshold; scale = g.scale; shift = z; query = g.query }
told Field.Asked z g = query_more g (z ∷ [])
told Field.Entry z g = series_more g (z ∷ [])

-- a kind
abbrev pub kind_said : Bool → Said → Said
kind_said r g = record { window = g.window; width = g.width; merge = g.merge; series = g.series; raw = r; band = g.band; threshold = g.threshold; scale = g.scale; shift = g.shift; query = g.query }

-- a word
abbrev pub named : Word → Said → Said
named Word.Window g = g
named Word.Width g = g
named Word.Merge g = g
named Word.Series g = g
named Word.Find g = g
named Word.Raw g = kind_said true g
named Word.Normal g = kind_said false g
named Word.Query g = g
named Word.End g = g
named Word.Line g = g
named Word.LineEnd g = g
named (Word.Space p) g = g

-- ---- the automaton

pub record Reading : Type 0 where
  pub state : State
  pub said : Said

abbrev pub at : State → Said → Reading
at s g = record { state = s; said = g }

abbrev pub moved : Moved → Said → Option Reading
moved (Moved.To s) g = Some (at s g)
moved (Moved.Value s p z) g = Some (at s (told p z g))
moved (Moved.Ended s w) g = Some (at s (named w g))
moved Moved.Refuse g = None

unfoldable pub step : Reading → ℕ → Option Reading
step x b = moved (line_step x.state b) x.said

-- the program's lines, and a series line by itself
abbrev pub program_start : Reading
program_start = at (State.In Word.Window 0) nothing_said

abbrev pub series_start : Reading
series_start = at (State.In Word.Line 0) nothing_said

-- ---- the two forms

abbrev pub series_value : Said → Value series_form
series_value g = g.series

abbrev pub program_value : Said → Value program_form
program_value g = (g.window, (g.width, (g.merge, (g.series, (g.raw, (g.band, (g.threshold, (g.scale, (g.shift, g.query)))))))))

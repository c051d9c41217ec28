-- Whole texts in pieces: a piece behind another, and what a text that has ended comes to, for a form that the automaton of the lines follows from its start.
use Rattle.text_feed.specs.declared.Values.{Values}

-- nothing has been read
abbrev pub no_values : Values
no_values = record { count = 0; inside = 0 }

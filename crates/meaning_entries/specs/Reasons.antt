-- The numbers of the conditions under which a call is refused, as documents 01 and 02 have them.
use Rattle.std.specs.Prelude.{ℕ}
use Rattle.meaning_entries.specs.declared.Reason.{Reason}

abbrev pub number_of : Reason → ℕ
number_of Reason.SeriesLength = 1
number_of Reason.Value = 2
number_of Reason.Window = 3
number_of Reason.Width = 4
number_of Reason.Merge = 5
number_of Reason.QueryLength = 6
number_of Reason.QueryBelowWindow = 7
number_of Reason.Band = 8
number_of Reason.Threshold = 9
number_of Reason.ScaleOrShift = 10
number_of Reason.FlatQuery = 11
number_of Reason.Text = 12
number_of Reason.IllFormed = 20
number_of Reason.FewerWindows = 21
number_of Reason.MoreWindows = 22
number_of Reason.Room = 23
number_of Reason.FullList = 24
number_of Reason.ClosestCount = 30

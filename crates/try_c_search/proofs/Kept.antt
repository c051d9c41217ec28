-- A search that keeps its promise, and is told, keeps the promise of being told.
use mathlib.Core.Path.{◌≡◌, ap, ◌∙◌}
use Rattle.meaning_entries.specs.{Answers.SearchAnswer, Search.SearchCall, Search.SearchBuffers, Demand2.SearchKept}
use Rattle.try_c_search.specs.{declared.Answer.Answer, Told.told_found, Told.SearchTold}

pub told-kept : {c : SearchCall} {before after : SearchBuffers} {a : SearchAnswer} {t : Answer} → SearchKept c before a after → t ≡ told_found a → SearchTold c before t after
told-kept k e = record { answered = e ∙ ap told_found k.answered; left = k.left; right = k.right; scratch = k.scratch; offsets = k.offsets; distances = k.distances }

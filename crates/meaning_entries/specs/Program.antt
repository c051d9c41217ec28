-- The search program, from the bytes it reads to the bytes it prints. Build and search are judged together as one call, before anything is printed.
use Rattle.std.specs.Prelude.{ℕ, ℤ, pos, length, List, [], ◌∷◌, ◌++◌}
use Rattle.std.specs.Prelude.{None, Some}
use Rattle.meaning_curves.specs.Limits.{most_program_values}
use Rattle.meaning_rows.specs.Index.{Index}
use Rattle.meaning_filter.specs.{declared.Kind.TheVariants.Raw, declared.Pick.Pick}
use Rattle.meaning_text.specs.{Form.Value, Read.fine, Read.unfit, Read.read_text, Texts.program_form, Texts.kind_said, Texts.index_text, Texts.found_text, Texts.refused_text}
use Rattle.meaning_entries.specs.{Refusal.Condition, Refusal.first_refusal, Refusal.flat_query, Refusal.unreadable, Build.width_lines, Build.build_index, Search.Asking, Search.SearchCall, Search.value_lines, Search.limit_lines, Search.search_candidates, Search.search_matches}

-- what the five lines say
pub record ProgramCall : Type 0 where
  pub window : ℤ
  pub width : ℤ
  pub merge : ℤ
  pub series : List ℤ
  pub query : List ℤ
  pub ask : Asking

unfoldable pub program_said : Value program_form → ProgramCall
program_said v =
    let find = v.1.1.1.1 in
    record {
      window = v.0;
      width = v.1.0;
      merge = v.1.1.0;
      series = v.1.1.1.0;
      query = find.1.1.1.1.1;
      ask = record { kind = kind_said find.0; band = find.1.0; threshold = find.1.1.0; scale = find.1.1.1.0; shift = find.1.1.1.1.0; pick = Pick.All };
    }

-- the call that a text gives; of a text that cannot be read nothing is asked
unfoldable pub text_program : List ℕ → ProgramCall
text_program t = elim (read_text program_form t) [
  | fine v ↦ program_said v
  | unfit p ↦ record {
    window = pos 0;
    width = pos 0;
    merge = pos 0;
    series = [];
    query = [];
    ask = record { kind = Raw; band = pos 0; threshold = pos 0; scale = pos 0; shift = pos 0; pick = Pick.All };
  }
]

-- what refuses the call that a text gives, in order: build and search together
unfoldable pub call_lines : ProgramCall → List Condition
call_lines c =
    let n = length c.series in
    value_lines most_program_values c.series c.query
    ++ (width_lines n c.window c.width c.merge
    ++ (limit_lines n (length c.query) c.window c.ask
    ++ (flat_query c.ask.kind c.query ∷ [])))

-- the refusals, in order
unfoldable pub program_table : List ℕ → List Condition
program_table t = unreadable program_form 0 t ∷ call_lines (text_program t)

-- the index that the program builds
unfoldable pub program_index : ProgramCall → Index
program_index c = build_index (record { series = c.series; window = c.window; width = c.width; merge = c.merge })

-- the search through it
abbrev pub program_search : ProgramCall → SearchCall
program_search c = record { series = c.series; index = program_index c; query = c.query; ask = c.ask }

-- it prints the index, then the list
unfoldable pub printed : ProgramCall → List ℕ
printed c =
    let x = program_search c in
    index_text x.index ++ found_text (length (search_matches x)) (search_candidates x) (search_matches x)

-- a refusal prints only `(refused N P)`
unfoldable pub program : List ℕ → List ℕ
program t = elim (first_refusal (program_table t)) [ Some r ↦ refused_text r.0 r.1 | None ↦ printed (text_program t) ]

-- What stands in the buffers once all windows are filed is the extended index.
use Rattle.std.specs.Prelude.{ℤ, List, ◌≡◌}
use Rattle.meaning_rows.specs.{Index.Index, Extend.extended}
use Rattle.meaning_entries.specs.Buffers.{IndexBuffers, index_in}

-- the buffers hold the extended index
abbrev pub HoldsExtended : Index → List ℤ → IndexBuffers → IndexBuffers → Type 0
HoldsExtended x s old new = new ≡ index_in (extended x s) old

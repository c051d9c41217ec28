-- A turn files one run of windows: the row of its name, the run's end, the name of the run that follows, and the two neighbours' names in the row's part.
use Rattle.build_names.proofs.Turn.{first-nameable, started, ended, place_in, asks-end, nearer-end, asks-name, asks-file, turned}
use Rattle.build_names.proofs.name_neighbours.Goals as goal

pub name_at-name-requires : goal.name_at-name-requires
name_at-name-requires c = first-nameable _ _ _ _ _ _ _ c.requires c.first_place-at.ensures

pub loop-name-init : goal.loop-name-init
loop-name-init c = started _ _ _ _ _ _ _ c.requires c.first_place-at.ensures c.name_at-name.ensures

pub row_at-r-requires : goal.row_at-r-requires
row_at-r-requires c = place_in _ _ _ _ _ _ _ c.requires c.loop-name.before c.loop-name.name c.loop-name.invariant c.in-Some.is

pub run_end-next-requires : goal.run_end-next-requires
run_end-next-requires c = asks-end _ _ _ _ _ _ _ c.requires c.loop-name.before c.loop-name.name c.loop-name.invariant c.in-Some.is c.row_at-r.ensures

pub name_at-after-requires : goal.name_at-after-requires
name_at-after-requires c = asks-name _ _ _ _ _ _ _ c.requires c.loop-name.before c.loop-name.name c.loop-name.invariant c.in-Some.is c.row_at-r.ensures c.run_end-next.ensures

pub entry_of-requires : goal.entry_of-requires
entry_of-requires c = (asks-file _ _ _ _ _ _ _ c.requires c.loop-name.before c.loop-name.name c.loop-name.invariant c.in-Some.is c.row_at-r.ensures c.run_end-next.ensures c.name_at-after.ensures).0

pub entry_of-requires-in-Some : goal.entry_of-requires-in-Some
entry_of-requires-in-Some c = (asks-file _ _ _ _ _ _ _ c.requires c.loop-name.before c.loop-name.name c.loop-name.invariant c.in-Some.is c.row_at-r.ensures c.run_end-next.ensures c.name_at-after.ensures).1

pub file_entry-requires : goal.file_entry-requires
file_entry-requires c =
    rw (c.entry_of.ensures, c.entry_of-in-Some.ensures)
    (asks-file _ _ _ _ _ _ _ c.requires c.loop-name.before c.loop-name.name c.loop-name.invariant c.in-Some.is c.row_at-r.ensures c.run_end-next.ensures c.name_at-after.ensures)

pub loop-name-smaller : goal.loop-name-smaller
loop-name-smaller c = nearer-end _ _ _ _ _ _ _ c.requires c.loop-name.before c.loop-name.name c.loop-name.invariant c.in-Some.is c.row_at-r.ensures c.run_end-next.ensures

pub loop-name-preserved : goal.loop-name-preserved
loop-name-preserved c =
    turned _ _ _ _ _ _ _ c.requires c.loop-name.before c.loop-name.name c.loop-name.invariant c.in-Some.is c.row_at-r.ensures c.run_end-next.ensures c.name_at-after.ensures c.entry_of.ensures c.entry_of-in-Some.ensures c.file_entry.ensures

pub returns : goal.returns
returns c = ended _ _ _ _ _ _ _ c.requires c.loop-name.before c.loop-name.name c.loop-name.invariant c.in_default.is

-- `lay_rows`: the row numbers and the ends of the parts are laid out, and the records packed out of them.
use Rattle.build_lay.proofs.Packs.{lay-packs, lay-packed}
use Rattle.build_lay.proofs.lay_rows.Goals as goal

pub pack_rows-requires : goal.pack_rows-requires
pack_rows-requires c = lay-packs c.args.rows.now c.requires c.lay_out-n.ensures

pub returns : goal.returns
returns c = rw c.pack_rows.ensures (lay-packed c.args.rows.now c.requires c.lay_out-n.ensures)

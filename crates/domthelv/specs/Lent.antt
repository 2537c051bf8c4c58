-- A set that the energies' calls read where it is lent.
use Rattle.domthelv.specs.declared.quantum.LentSet.{LentSet}
use Rattle.saftvrqmie_parameters.specs.declared.SaftVRQMiePars.{SaftVRQMiePars}

abbrev pub lent_read : LentSet → SaftVRQMiePars
lent_read l = record { count = l.count; m = l.m; sheets = l.sheets.now; orders = l.orders }

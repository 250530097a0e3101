use Rattle.std.proofs.Common.{arith, rules}
use Rattle.list.proofs.Rows.{found_told, put_tidy}
use Rattle.list.proofs.ListStore.put.Goals as goal

pub invariant_of-self : goal.invariant_of-self
invariant_of-self c = record {
  tidy = put_tidy _ _ _ (omega arith) (search rules) (grind (arith, found_told)) c.args.self.now.tidy;
}

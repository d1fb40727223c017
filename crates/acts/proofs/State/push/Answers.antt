use Rattle.acts.proofs.Laws.{room_leaf, laid_leaf}
use Rattle.acts.proofs.OneRow.{one_row}
use Rattle.acts.specs.Does.{node_of}
use Rattle.acts.proofs.State.push.Goals as goal

pub push_row-requires : goal.push_row-requires
push_row-requires c = room_leaf (node_of c.args.leaf) (one_row c.args.leaf) c.requires.room

pub returns : goal.returns
returns c =
    record {
      laid = laid_leaf (node_of c.args.leaf) (one_row c.args.leaf) (c.row_of.ensures c.args.self.now.cursor.row) c.push_row.ensures.written;
      same = c.push_row.ensures.same;
    }

use Rattle.tree_nodes.proofs.Noding.{byte-node, context-node, leaf-node}
use Rattle.tree_nodes.proofs.node_at.Goals as goal

pub returns-then-bytes-ne0 : goal.returns-then-bytes-ne0
returns-then-bytes-ne0 c =
    let ready = c.requires in
    byte-node _ _ _ _ ready.ready.sound ready.valid_pattern _ c.gather-live.ensures c.if-bytes-ne0.true

pub returns-then-context-ne0 : goal.returns-then-context-ne0
returns-then-context-ne0 c =
    let ready = c.requires in
    context-node _ _ _ _ ready.ready.sound ready.valid_pattern _ c.gather-live.ensures c.if-bytes-ne0.false c.if-context-ne0.true

pub returns : goal.returns
returns c =
    let ready = c.requires in
    leaf-node _ _ _ _ ready.ready.sound ready.valid_pattern _ c.gather-live.ensures ready.ready.clear c.if-bytes-ne0.false c.if-context-ne0.false

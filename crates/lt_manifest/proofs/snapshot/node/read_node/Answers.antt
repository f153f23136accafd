use Rattle.std.proofs.Common.{◌∙◌, ◌++◌}
use Rattle.std.proofs.lemmas.Result.{err_from_is_err_and}
use Rattle.lt_manifest.proofs.ExtentLaws.{same-swapped}
use Rattle.lt_manifest.proofs.FaultLaws.{read-ok, read-field, read-part}
use Rattle.lt_manifest.proofs.ShapeLaws.{node_read-ok, node_read-shape_fault, node_read-tables_fault, node_read-groups_fault}
use Rattle.lt_manifest.proofs.snapshot.node.read_node.Goals as goal

pub returns-in_err-shape-clause-read : goal.returns-in_err-shape-clause-read
returns-in_err-shape-clause-read c = λ before marks.
    let fault = err_from_is_err_and c.from_residual.result c.from_residual.ensures.1 in
    read-field _ _ _ fault.0 _ fault.1 fault.2 (node_read-shape_fault _ _ _ _ _ before _ _ c.in_err-shape.ensures)

pub returns-in_err-tables-clause-read : goal.returns-in_err-tables-clause-read
returns-in_err-tables-clause-read c = λ before marks.
    let fault = err_from_is_err_and c.from_residual-in_err-tables.result c.from_residual-in_err-tables.ensures.1 in
    read-part _ _ _ fault.0 _ _ _ _ c.in_err-tables.was fault.1 fault.2 (c.read_extents.ensures.read before marks) (λ e bad. node_read-tables_fault _ _ _ _ _ before _ _ _ _ c.in_ok-shape.ensures bad)

pub returns-in_err-groups-clause-read : goal.returns-in_err-groups-clause-read
returns-in_err-groups-clause-read c = λ before marks.
    let fault = err_from_is_err_and c.from_residual-in_err-groups.result c.from_residual-in_err-groups.ensures.1 in
    let tables = read-ok _ _ _ _ (c.read_extents.ensures.read before marks) c.in_ok-tables.was in
    read-part _ _ _ fault.0 _ _ _ _ c.in_err-groups.was fault.1 fault.2 (c.read_extents-2.ensures.read (c.in_ok-tables.tables.items ++ before) (c.in_ok-tables.ensures.marked before marks))
    (λ e bad. node_read-groups_fault _ _ _ _ _ before _ _ _ _ _ _ c.in_ok-shape.ensures tables bad)

pub returns-clause-read : goal.returns-clause-read
returns-clause-read c = λ before marks.
    let tables = read-ok _ _ _ _ (c.read_extents.ensures.read before marks) c.in_ok-tables.was in
    let groups = read-ok _ _ _ _ (c.read_extents-2.ensures.read (c.in_ok-tables.tables.items ++ before) (c.in_ok-tables.ensures.marked before marks)) c.in_ok-groups.was in
    node_read-ok _ _ _ _ _ before _ _ _ _ _ _ _ c.in_ok-shape.ensures tables groups

pub returns-clause-marked : goal.returns-clause-marked
returns-clause-marked c = λ before marks.
    let marked = c.in_ok-groups.ensures.marked (c.in_ok-tables.tables.items ++ before) (c.in_ok-tables.ensures.marked before marks) in
    λ x within. marked x within ∙ same-swapped c.in_ok-groups.groups.items c.in_ok-tables.tables.items before x

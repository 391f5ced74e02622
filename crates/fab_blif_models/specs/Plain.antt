-- Models as plain data: no pointers, each vector a list, each name its bytes.
use Rattle.std.specs.Prelude.{ℕ, Bool, List, map, Option}
use Rattle.fab_netlist.specs.declared.wide.Cube.{Cube}
use Rattle.fab_blif_models.specs.declared.model.Model.{Model}
use Rattle.fab_blif_models.specs.declared.model.Statement.{Statement}
use Rattle.fab_blif_models.specs.declared.model.Body.{Body}
use Rattle.fab_blif_models.specs.declared.model.Body.TheVariants.{Inputs, Outputs, Clock, Cover, Latch, Instance}

-- what a line of a model says
pub data PlainBody : Type 0 where
  inputs : (names : List (List ℕ)) → PlainBody
  outputs : (names : List (List ℕ)) → PlainBody
  clock : (name : List ℕ) → PlainBody
  cover : (inputs : List (List ℕ)) (output : List ℕ) (on : Bool) (rows : List Cube) → PlainBody
  latch : (input output : List ℕ) (control : Option (List ℕ)) (initial : ℕ) → PlainBody
  instance : (model_name : List ℕ) (joins : List (List ℕ)) → PlainBody

-- a line of a model
pub record PlainStatement : Type 0 where
  pub line : ℕ
  pub body : PlainBody

pub record PlainModel : Type 0 where
  pub line : ℕ
  pub name : List ℕ
  pub statements : List PlainStatement

abbrev pub plain_body : Body → PlainBody
plain_body (Inputs names) = inputs names.items
plain_body (Outputs names) = outputs names.items
plain_body (Clock name) = clock name
plain_body (Cover ins output on rows) = cover ins.items output on rows.items
plain_body (Latch input output control initial) = latch input output control initial
plain_body (Instance model joins) = instance model joins.items

abbrev pub plain_statement : Statement → PlainStatement
plain_statement statement = record { line = statement.line; body = plain_body statement.body }

abbrev pub plain_model : Model → PlainModel
plain_model model = record { line = model.line; name = model.name; statements = map plain_statement model.statements.items }

abbrev pub plain_models : List Model → List PlainModel
plain_models models = map plain_model models

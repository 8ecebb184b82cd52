-- A row of the program's table as a row of the definition's.
use Rattle.scenario_keys.specs.ScenarioKeys.{Row, row_when}
use Rattle.scenario_keys.specs.declared.rows.KeyRow.{KeyRow}

abbrev pub seen : KeyRow → Row
seen here = row_when here.when here.number here.table.now here.name.now here.kind

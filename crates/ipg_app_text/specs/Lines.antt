-- What is said by a status with a text.
use Rattle.ipg_app_text.specs.Said.{Said}
use Rattle.ipg_app_text.specs.declared.said.Settled.{Settled}

abbrev pub said_of : Settled → Said
said_of settled = record { status = settled.status; text = settled.text.items }

-- A message by its layout.
use Rattle.std.specs.Prelude.{Bool, List, Result, Ok, Err}
use Rattle.ais_messages.specs.MessageFields.{message_of}
use Rattle.ais_messages.specs.declared.decoding.Layout.{Layout}
use Rattle.ais_messages.specs.declared.message.MessageCause.{MessageCause}
use Rattle.ais_messages.specs.declared.message.Decoded.{Decoded}
use Rattle.ais_messages.specs.declared.message.Decoded.TheVariants as decoded

-- the reading of bits of a known layout, or why they have none
abbrev pub decoded_by : List Bool → Result Layout MessageCause → Decoded
decoded_by bits (Ok layout) = decoded.Message (message_of layout bits)
decoded_by bits (Err cause) = decoded.Dropped cause

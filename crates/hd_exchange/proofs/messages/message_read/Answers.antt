use Rattle.hd_exchange.proofs.messages.message_read.Goals as goal

pub desk_message-requires-clause-values : goal.desk_message-requires-clause-values
desk_message-requires-clause-values g c = c.checkout_values-values.ensures _

pub desk_message-requires-in-Checkin-clause-values : goal.desk_message-requires-in-Checkin-clause-values
desk_message-requires-in-Checkin-clause-values g c = c.checkin_values-values.ensures _

pub desk_message-requires-in-Hold-clause-values : goal.desk_message-requires-in-Hold-clause-values
desk_message-requires-in-Hold-clause-values g c = c.hold_values-values.ensures _

pub desk_message-requires-in-Renew-clause-values : goal.desk_message-requires-in-Renew-clause-values
desk_message-requires-in-Renew-clause-values g c = c.renew_values-values.ensures _

pub desk_message-requires-in-Item-clause-values : goal.desk_message-requires-in-Item-clause-values
desk_message-requires-in-Item-clause-values g c = c.item_values-values.ensures _

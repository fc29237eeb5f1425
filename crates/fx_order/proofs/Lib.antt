mod Appended
mod InOrder
mod CausesFirst

mod Operands
mod Rooms

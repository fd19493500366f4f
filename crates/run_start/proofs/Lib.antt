mod Each
mod Vias
mod Beginning
mod Given
mod Unstarted
